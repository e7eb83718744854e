-- The last digits of a number.
use Rattle.std.specs.Prelude.{◌+◌, ◌++◌, ◌/◌, ◌%◌, ◌∷◌, ℕ, List, [], suc, zero}

-- the last `width` decimal digits of a number, highest first
abbrev pub last_digits : ℕ → ℕ → List ℕ
last_digits zero n = []
last_digits (suc width) n = last_digits width (n / 10) ++ (48 + n % 10) ∷ []
