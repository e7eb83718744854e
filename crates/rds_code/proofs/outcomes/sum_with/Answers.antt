use Rattle.rds_code.proofs.Names.{ℕ, ◌<◌, sym, subst, xor_lt}
use Rattle.rds_code.proofs.ReadingLemmas.{word-lt}
use Rattle.rds_code.proofs.outcomes.sum_with.Goals as goal

-- a remainder and an offset word have ten bits, and so has their sum
pub returns-clause-small : goal.returns-clause-small
returns-clause-small c = xor_lt 10 c.args.remainder c.word.result c.requires (subst (λ (n : ℕ). n < 1024) (sym c.word.ensures) (word-lt c.args.offset))
