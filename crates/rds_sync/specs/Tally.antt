-- A run that goes on: where it is, and the items that it gave. `Tally` cites it. This project's rule.
use Rattle.std.specs.Prelude.{ℕ, ◌-◌, List, [], ◌++◌}
use Rattle.rds_stream.specs.Recording.{Signal}
use Rattle.rds_sync.specs.{declared.item.Item.Item, declared.state.State.State, Rules.RuleNumbers, Step.run}

-- a run over a recording, by rules: the place of the next bit, the state before it, and the items given so far
pub record TallyOf : Type 0 where
  pub source : Signal
  pub rules : RuleNumbers
  pub place : ℕ
  pub state : State
  pub list : List Item

-- before the first bit
abbrev pub tally_at : Signal → RuleNumbers → ℕ → State → TallyOf
tally_at b rules place s = record { source = b; rules = rules; place = place; state = s; list = [] }

-- the same run at a later place
abbrev pub gone_on : TallyOf → ℕ → TallyOf
gone_on t to = record t {
  place = to;
  state = (run t.source t.rules t.state t.place (to - t.place)).0;
  list = t.list ++ (run t.source t.rules t.state t.place (to - t.place)).1;
}
