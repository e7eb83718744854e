use Rattle.rds_tool.proofs.Names.{common_steps, ◌*◌, ◌+◌, ◌/◌, ◌%◌, ◌≡◌, ◌<◌, ◌∷◌, List, [], arith, get_or, suc, zero, ℕ}
use Rattle.rds_tool.proofs.digits.two_decimals.Goals as goal

-- the two digits of each number from k on
abbrev pairs_from : ℕ → ℕ → List ℕ
pairs_from k zero = []
pairs_from k (suc n) = (48 + k / 10) ∷ (48 + k % 10) ∷ pairs_from (k + 1) n

tens_at : (k n i : ℕ) → i < n → get_or (pairs_from k n) (2 * i) 0 ≡ 48 + (k + i) / 10
tens_at k zero i h = absurd (omega (arith, h))
tens_at k (suc n) zero h = grind (arith, common_steps)
tens_at k (suc n) (suc i) h = grind (arith, common_steps, tens_at (k + 1) n i)

ones_at : (k n i : ℕ) → i < n → get_or (pairs_from k n) (2 * i + 1) 0 ≡ 48 + (k + i) % 10
ones_at k zero i h = absurd (omega (arith, h))
ones_at k (suc n) zero h = grind (arith, common_steps)
ones_at k (suc n) (suc i) h = grind (arith, common_steps, ones_at (k + 1) n i)

spelled : (n : ℕ) → n < 100 → get_or (pairs_from 0 100) (2 * n) 0 ∷ get_or (pairs_from 0 100) (2 * n + 1) 0 ∷ [] ≡ (48 + n / 10 % 10) ∷ (48 + n % 10) ∷ []
spelled n less = grind (arith, common_steps, tens_at 0 100 n, ones_at 0 100 n)

pub returns : goal.returns
returns c = spelled c.args.n c.requires
