-- A table of the outcomes of blocks by their remainders. `Outcomes` keeps it so, and no caller sees it.
use Rattle.std.specs.{Prelude.◌≡◌, Prelude.ℕ, Prelude.zero, Prelude.suc, Prelude.◌/◌, Prelude.◌%◌, Prelude.◌<◌, Prelude.◌⊎◌, Prelude.List, Prelude.length, Prelude.slice_index, Int.bit_at, Int.Count.ones}
use Rattle.rds_code.specs.{Remainder.rem, Bursts.IsBurst, Bursts.burst_length, Outcomes.burst_outcome, declared.reading.Wanted.Wanted, declared.reading.Wanted.TheVariants.OnlyC, declared.reading.Wanted.TheVariants.OnlyCx, declared.reading.Wanted.TheVariants.Either}

-- no burst within the limit has the remainder d
abbrev pub HasNoBurst : ℕ → ℕ → Type 0
HasNoBurst limit d = (e : ℕ) → IsBurst limit e → rem e ≡ d → ⊥

-- one has
abbrev pub HasBurst : ℕ → ℕ → ℕ → Type 0
HasBurst limit d e = IsBurst limit e × (rem e ≡ d)

-- k is the outcome of a window whose remainder, added to an offset word, is d: valid, lost, or corrected by a burst
abbrev pub IsOutcome : ℕ → ℕ → ℕ → Type 0
IsOutcome limit d k = ((d ≡ 0) × (k ≡ 1)) ⊎ ((0 < d) × HasNoBurst limit d × (k ≡ 2))
    ⊎ ((e : ℕ) × HasBurst limit d e × (k ≡ burst_outcome (burst_length e) (ones e)))

-- how its correction turns its version bit, bit 21: 1 if it inverts it, 0 if not, 2 if the window is lost
abbrev pub IsTurn : ℕ → ℕ → ℕ → Type 0
IsTurn limit d t = ((d ≡ 0) × (t ≡ 0)) ⊎ ((0 < d) × HasNoBurst limit d × (t ≡ 2))
    ⊎ ((e : ℕ) × HasBurst limit d e × (t ≡ bit_at e 21))

-- the offsets that are tried for version 0, which is A, for version 1, which is B, and for none
abbrev pub wanted_at : ℕ → Wanted
wanted_at zero = OnlyC
wanted_at (suc zero) = OnlyCx
wanted_at (suc (suc v)) = Either

-- an entry of the table: an outcome and, in sixteens, a turn
abbrev pub IsEntry : ℕ → ℕ → ℕ → Type 0
IsEntry limit d k = IsOutcome limit d (k % 16) × IsTurn limit d (k / 16)

-- the entries of a table are those by the first remainders
abbrev pub StandIn : ℕ → List ℕ → Type 0
StandIn limit table = (i : ℕ) → i < length table → IsEntry limit i (slice_index table i)

pub record AreEntries (limit : ℕ) (entries : List ℕ) : Type 0 where
  pub long : length entries ≡ 1024
  pub each : StandIn limit entries
