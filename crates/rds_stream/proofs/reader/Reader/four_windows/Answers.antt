use Rattle.rds_stream.proofs.Names.{◌≡◌, ℕ, [], ◌∷◌, Option, arith, common_steps}
use Rattle.rds_stream.proofs.WindowLists.{heard_clear}
use Rattle.rds_stream.proofs.reader.Reader.four_windows.Goals as goal

four-same : (a b c d p q r s : Option ℕ) → a ≡ p → b ≡ q → c ≡ r → d ≡ s → a ∷ b ∷ c ∷ d ∷ [] ≡ p ∷ q ∷ r ∷ s ∷ []
four-same a b c d p q r s one two three four = cc

pub returns-clause-value : goal.returns-clause-value
returns-clause-value c = grind (arith, common_steps, heard_clear, four-same)
