-- The valid windows of a range, one after the other, and which of them are left. `ValidWindows` is said to be these, and `scan`
-- answers them all.
use Rattle.std.specs.Prelude.{◌≡◌, ℕ, ◌+◌, ◌<◌, ◌≤◌, Option, Some, None}
use Rattle.rds_code.specs.declared.offset.Offset.{Offset}
use Rattle.rds_stream.specs.Recording.{Signal, offset_at}

-- the rest of a range: the places of the recording from `next` to before `end`
pub record WindowsLeft : Type 0 where
  pub signal : Signal
  pub next : ℕ
  pub end : ℕ

-- no place from `from` to before `to` has an offset
abbrev pub NoneValid : Signal → ℕ → ℕ → Type 0
NoneValid b from to = (i : ℕ) → from ≤ i → i < to → offset_at b i ≡ None

-- the first valid window of the rest is given, with its place and offset, and the places after it are left;
-- or there is none
abbrev pub GivesFirst : WindowsLeft → Option (ℕ × Offset) → WindowsLeft → Type 0
GivesFirst old None new = NoneValid old.signal old.next old.end
    × (new ≡ record { signal = old.signal; next = old.end; end = old.end })
GivesFirst old (Some found) new =
    (old.next ≤ found.0) × (found.0 < old.end) × NoneValid old.signal old.next found.0
    × (offset_at old.signal found.0 ≡ Some found.1)
    × (new ≡ record { signal = old.signal; next = found.0 + 1; end = old.end })
