-- A search over the valid windows that are left, up to the first place that acquires. Cited by the body below `stretch`, `run_report`
-- and `Tally`, and by no public call.
use Rattle.std.specs.Prelude.{◌≡◌, ℕ, ◌+◌, ◌<◌, ◌≤◌, Option, Some, None}
use Rattle.rds_code.specs.{Offsets.number, declared.offset.Offset.Offset}
use Rattle.rds_stream.specs.{Recording.Signal, ValidWindows.WindowsLeft}
use Rattle.rds_sync.specs.{Acquiring.acquired, Rules.RuleNumbers}

-- no place from `from` to before `to` acquires
abbrev pub NoneAcquires : Signal → RuleNumbers → ℕ → ℕ → Type 0
NoneAcquires b rules from to = (i : ℕ) → from ≤ i → i < to → acquired b rules i ≡ None

-- the first window that acquires is given, with its place and offset, and the places after it are left; or there is none
abbrev pub FindsFirst : RuleNumbers → WindowsLeft → Option (ℕ × Offset) → WindowsLeft → Type 0
FindsFirst rules old None new = NoneAcquires old.signal rules old.next old.end
FindsFirst rules old (Some found) new =
    (old.next ≤ found.0) × (found.0 < old.end) × NoneAcquires old.signal rules old.next found.0
    × (acquired old.signal rules found.0 ≡ Some (number found.1))
    × (new ≡ record { signal = old.signal; next = found.0 + 1; end = old.end })
