-- The refusals in the order of their numbers.
use Rattle.std.specs.Prelude.{◌≡◌, List, [], ◌∷◌, codes, map, refl}
use Rattle.rds_code.specs.Refusals.{name_of, number_of}
use Rattle.rds_code.specs.declared.error.RdsError.TheVariants.{BadCutting, BadGaps, BitsPastBytes, BurstRange, CrewRange, GroupText, HexText, LossRange, NoWorker, OutOfMemory, ReachRange, Read, ShareRange, TooLong, TooManyTurns, Write}
use Rattle.rds_code.specs.declared.error.RdsError.{RdsError}

abbrev pub all : List RdsError
all = BurstRange ∷ ReachRange ∷ LossRange ∷ BitsPastBytes ∷ TooLong ∷ BadCutting ∷ CrewRange ∷ OutOfMemory ∷ Read
    ∷ Write ∷ HexText ∷ GroupText
    ∷ TooManyTurns ∷ NoWorker ∷ ShareRange ∷ BadGaps ∷ []

pub numbers : map number_of all ≡ 1 ∷ 2 ∷ 3 ∷ 4 ∷ 5 ∷ 6 ∷ 7 ∷ 8 ∷ 9 ∷ 10 ∷ 11 ∷ 12 ∷ 13 ∷ 14 ∷ 15 ∷ 16 ∷ []
numbers = refl

pub names : map name_of all
    ≡ codes "BurstRange" ∷ codes "ReachRange" ∷ codes "LossRange" ∷ codes "BitsPastBytes" ∷ codes "TooLong"
    ∷ codes "BadCutting"
    ∷ codes "CrewRange" ∷ codes "OutOfMemory" ∷ codes "Read" ∷ codes "Write" ∷ codes "HexText" ∷ codes "GroupText"
    ∷ codes "TooManyTurns"
    ∷ codes "NoWorker" ∷ codes "ShareRange" ∷ codes "BadGaps" ∷ []
names = refl
