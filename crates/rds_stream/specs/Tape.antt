-- The model of a tape: a recording, and how many of its windows were read. `Tape` and `Counted` are said to
-- be it.
use Rattle.std.specs.Prelude.{ℕ}
use Rattle.rds_stream.specs.Recording.{Signal}

-- the recording that the tape is of, and how many windows were read from it
pub record TapeState : Type 0 where
  pub signal : Signal
  pub reads : ℕ
