-- The rows of least weights.
use Rattle.std.specs.Prelude.{◌≡◌, ℕ, ◌+◌, ◌<◌, ◌≤◌, length, slice_index, get_or, List, [], bit_xor, min}
use Rattle.rds_soft.specs.Inside.Lightest.{least, lightest, second}

-- each of the next row is the lesser of the two ways to its sum
abbrev pub Follows : List ℕ → ℕ → ℕ → List ℕ → Type 0
Follows row e c next = (s : ℕ) → s < 1024
    → slice_index next s ≡ min (slice_index row s) (slice_index row (bit_xor s e) + c)

-- a row has the least weights of the flips of the last n symbols, by their sum
pub record AreLeast (e c : ℕ → ℕ) (n : ℕ) (row : List ℕ) : Type 0 where
  pub long : length row ≡ 1024
  pub each : (s : ℕ) → s < 1024 → slice_index row s ≡ least e c n s

-- row n has those of the last n symbols, for each n below 27
abbrev pub AreRows : (ℕ → ℕ) → (ℕ → ℕ) → List (List ℕ) → Type 0
AreRows e c rows = (n : ℕ) → n < 27 → AreLeast e c n (get_or rows n [])

-- the look back from the sum s at symbol m - 1: flips of the symbols before it, their weight, the sum that is left, and the
-- least weight of others that differ at a symbol before it
pub record IsWalk (e c : ℕ → ℕ) (s m left flips spent others : ℕ) : Type 0 where
  pub left_small : left < 1024
  pub flips_are : lightest e c 27 s ≡ flips + lightest e c m left
  pub weight_is : least e c 27 s ≡ spent + least e c m left
  pub others_are : second e c 27 s ≡ min others (spent + second e c m left)
  pub most : others ≤ 255
