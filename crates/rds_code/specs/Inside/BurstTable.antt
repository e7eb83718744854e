-- A table of the bursts of up to five bits by their remainders. `BurstTable` keeps it so, and no caller sees it.
use Rattle.std.specs.Prelude.{◌≡◌, ℕ, ◌<◌, List, length, slice_index}
use Rattle.rds_code.specs.{Remainder.rem, Bursts.IsBurst}

-- each pattern in the table is a burst, and its index is its remainder
abbrev pub IsSound : List ℕ → Type 0
IsSound patterns = (r : ℕ) → r < 1024 → 0 < slice_index patterns r
    → IsBurst 5 (slice_index patterns r) × (rem (slice_index patterns r) ≡ r)

-- the burst e is in the table
abbrev pub HasBurst : List ℕ → ℕ → Type 0
HasBurst patterns e = slice_index patterns (rem e) ≡ e

-- an entry for each remainder: the burst that has it, or 0 if none has
pub record IsBurstTable (patterns : List ℕ) : Type 0 where
  pub long : length patterns ≡ 1024
  pub sound : IsSound patterns
  pub complete : (e : ℕ) → IsBurst 5 e → HasBurst patterns e
