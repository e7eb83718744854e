-- The view that contracts have of the work over a recording. It is the value of a `RecordingWork`, which
-- `new` and `cut_into` answer.
use Rattle.std.specs.Prelude.{ℕ, List}
use Rattle.rds_stream.specs.Recording.{Signal}
use Rattle.rds_sync.specs.Rules.{RuleNumbers}

pub record WorkOf : Type 0 where
  pub recording : Signal
  pub rules : RuleNumbers
  pub places : List ℕ
