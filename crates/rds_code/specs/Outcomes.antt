-- The outcome of a block as a number of four bits, and the offsets that a block 2 allows for block 3: this project's
-- rules. `Outcomes::of_block`, `Burst::outcome` and `Outcomes::wanted_after` return them. `rds_sync` has 0 for a block that was not read.
use Rattle.std.specs.{Prelude.ℕ, Prelude.◌+◌, Prelude.◌-◌, Prelude.◌*◌, Prelude.◌/◌, Prelude.◌==◌, Prelude.if◌then◌else◌, Int.bit_at, Int.Count.ones}
use Rattle.rds_code.specs.{declared.reading.Wanted.Wanted, declared.reading.Wanted.TheVariants.OnlyC, declared.reading.Wanted.TheVariants.OnlyCx, declared.reading.Wanted.TheVariants.Either, declared.reading.Reading.Reading, declared.reading.Reading.TheVariants.Valid, declared.reading.Reading.TheVariants.Corrected, declared.reading.Reading.TheVariants.Lost, Bursts.burst_length}

-- corrected by a burst of s bits, n of which are wrong: 3 to 13 for s up to 5, by rising s and then rising n
abbrev pub burst_outcome : ℕ → ℕ → ℕ
burst_outcome s n = (s - 1) * (s - 2) / 2 + n + 2

abbrev pub outcome_number : Reading → ℕ
outcome_number (Valid o info) = 1
outcome_number Lost = 2
outcome_number (Corrected o info e) = burst_outcome (burst_length e) (ones e)

-- the offsets that are tried for block 3 if block 2 has this information word: its bit 11 says version A or B
abbrev pub wanted_of_info : ℕ → Wanted
wanted_of_info info = if bit_at info 11 == 0 then OnlyC else OnlyCx

-- the same if block 2 is read so
abbrev pub wanted_after : Reading → Wanted
wanted_after (Valid o info) = wanted_of_info info
wanted_after (Corrected o info e) = wanted_of_info info
wanted_after Lost = Either
