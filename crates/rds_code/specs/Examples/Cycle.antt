-- Worked examples of the cycle of block numbers: 1, 2, 3, 4, and 1 again.
use Rattle.std.specs.Prelude.{◌≡◌, ℕ, List, [], ◌∷◌, map, refl}
use Rattle.rds_code.specs.Cycle.{next_number, number_after}

abbrev pub numbers : List ℕ
numbers = 1 ∷ 2 ∷ 3 ∷ 4 ∷ []

-- the block after one of each number
pub next : map next_number numbers ≡ 2 ∷ 3 ∷ 4 ∷ 1 ∷ []
next = refl

-- that is one block after it
pub one_on : map (λ x. number_after x 1) numbers ≡ map next_number numbers
one_on = refl

-- five blocks after one of each number
pub five_on : map (λ x. number_after x 5) numbers ≡ 2 ∷ 3 ∷ 4 ∷ 1 ∷ []
five_on = refl
