-- The refusals of the library, by the numbers and names that all of the project share, and its own from 64 on. `Refusal::number`,
-- `name` and `of_number` answer them.
use Rattle.std.specs.Prelude.{ℕ, List, codes}
use Rattle.rds_abi.specs.declared.refusal.Refusal.TheVariants.{BadGaps, BitsPastBytes, BlockRange, BurstRange, LossRange, MarginRange, NoRefusal, OffsetRange, OutOfMemory, PlaceRange, ReachRange, ReservedField, ShareRange, SmallRoom, TooLong, UnlawfulState}
use Rattle.rds_abi.specs.declared.refusal.Refusal.{Refusal}

abbrev pub number_and_name : Refusal → ℕ × List ℕ
number_and_name BurstRange = (1, codes "BurstRange")
number_and_name ReachRange = (2, codes "ReachRange")
number_and_name LossRange = (3, codes "LossRange")
number_and_name BitsPastBytes = (4, codes "BitsPastBytes")
number_and_name TooLong = (5, codes "TooLong")
number_and_name OutOfMemory = (8, codes "OutOfMemory")
number_and_name ShareRange = (15, codes "ShareRange")
number_and_name BadGaps = (16, codes "BadGaps")
number_and_name SmallRoom = (64, codes "SmallRoom")
number_and_name UnlawfulState = (65, codes "UnlawfulState")
number_and_name PlaceRange = (66, codes "PlaceRange")
number_and_name BlockRange = (67, codes "BlockRange")
number_and_name OffsetRange = (68, codes "OffsetRange")
number_and_name NoRefusal = (69, codes "NoRefusal")
number_and_name ReservedField = (71, codes "ReservedField")
number_and_name MarginRange = (75, codes "MarginRange")

abbrev pub number_of : Refusal → ℕ
number_of refusal = (number_and_name refusal).0

abbrev pub name_of : Refusal → List ℕ
name_of refusal = (number_and_name refusal).1
