-- The numbers and names of the refusals, which all crates of the project share, and when refused memory is one: this project's rule.
-- `RdsError::number` and `name` answer the first two.
use Rattle.std.specs.Prelude.{◌≡◌, ◌⊎◌, ℕ, Err, List, Result, codes}
use Rattle.rds_code.specs.declared.error.RdsError.TheVariants.{BadCutting, BadGaps, BitsPastBytes, BurstRange, CrewRange, GroupText, HexText, LossRange, NoWorker, OutOfMemory, ReachRange, Read, ShareRange, TooLong, TooManyTurns, Write}
use Rattle.rds_code.specs.declared.error.RdsError.{RdsError}

abbrev pub number_and_name : RdsError → ℕ × List ℕ
number_and_name BurstRange = (1, codes "BurstRange")
number_and_name ReachRange = (2, codes "ReachRange")
number_and_name LossRange = (3, codes "LossRange")
number_and_name BitsPastBytes = (4, codes "BitsPastBytes")
number_and_name TooLong = (5, codes "TooLong")
number_and_name BadCutting = (6, codes "BadCutting")
number_and_name CrewRange = (7, codes "CrewRange")
number_and_name OutOfMemory = (8, codes "OutOfMemory")
number_and_name Read = (9, codes "Read")
number_and_name Write = (10, codes "Write")
number_and_name HexText = (11, codes "HexText")
number_and_name GroupText = (12, codes "GroupText")
number_and_name TooManyTurns = (13, codes "TooManyTurns")
number_and_name NoWorker = (14, codes "NoWorker")
number_and_name ShareRange = (15, codes "ShareRange")
number_and_name BadGaps = (16, codes "BadGaps")

abbrev pub number_of : RdsError → ℕ
number_of refusal = (number_and_name refusal).0

abbrev pub name_of : RdsError → List ℕ
name_of refusal = (number_and_name refusal).1

-- memory was refused, or the error is that of the wanted result
abbrev pub IsMemoryOrErrOf : {T : Type 0} → Result T RdsError → RdsError → Type 0
IsMemoryOrErrOf wanted error = (error ≡ OutOfMemory) ⊎ (wanted ≡ Err error)
