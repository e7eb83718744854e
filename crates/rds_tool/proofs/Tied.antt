-- What ties a history to the bytes that a writer holds, where those are known.
use Rattle.rds_tool.proofs.Names.{common_steps, arith, ◌≡◌, List, ◌++◌, ℕ, Option, Some, None, append_assoc, Appends, Keeps}
use Rattle.std.{proofs.Math.Logic.∥∥₁_elim, specs.Coded.Coded-set, specs.Coded.coded_list, specs.Coded.coded_ℕ}

pub appends_more : (a b c : Option (List ℕ)) (xs ys : List ℕ) → Appends a b xs → Appends b c ys → Appends a c (xs ++ ys)
appends_more a b c xs ys p q = grind (arith, common_steps, append_assoc)

pub appends_kept : (a b c : Option (List ℕ)) (xs : List ℕ) → Appends a b xs → Keeps b c → Appends a c xs
appends_kept a b c xs p q = grind (arith, common_steps)

-- it is one fact at most, so it holds where it is known to
pub appends_told : (o n : Option (List ℕ)) (bs : List ℕ) → ∥ Appends o n bs ∥₁ → Appends o n bs
appends_told None n bs t = tt
appends_told (Some xs) None bs t = let bad : 0 ≡ 1 = ∥∥₁_elim t (Coded-set coded_ℕ 0 1) (λ x. absurd x) in cc bad
appends_told (Some xs) (Some ys) bs t = ∥∥₁_elim t (Coded-set (coded_list coded_ℕ) _ _) (λ x. x)
