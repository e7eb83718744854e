-- The rest of a run, and a list of items that names its recording and its rules. A `Decoder` is said to be
-- the first, `Items` and `IndexedItems` the second, and with them a report by `decode_plain`. This project's
-- rules.
use Rattle.std.specs.{Prelude.◌≡◌, Prelude.ℕ, Prelude.◌-◌, Prelude.List, Prelude.Option, Iterator.YieldsFirst}
use Rattle.rds_stream.specs.Recording.{Signal}
use Rattle.rds_sync.specs.{declared.state.State.State, declared.item.Item.Item, Rules.RuleNumbers, Step.run}

-- the items of a run that are still to come, in order, and the state that it ends in
pub record DecoderOf : Type 0 where
  pub items : List Item
  pub end : State

-- all of the run from state s over the places from `from` to before `to`
abbrev pub decoder_of : Signal → RuleNumbers → State → ℕ → ℕ → DecoderOf
decoder_of b rules s from to = record {
  items = (run b rules s from (to - from)).1;
  end = (run b rules s from (to - from)).0;
}

-- the first item of the rest is given, and the others are left; the run ends as before
abbrev pub GivesNext : DecoderOf → Option Item → DecoderOf → Type 0
GivesNext old given new = YieldsFirst (λ (d : DecoderOf). d.items) old given new × (new.end ≡ old.end)

-- items of a recording, by rules
pub record ItemsOf : Type 0 where
  pub source : Signal
  pub rules : RuleNumbers
  pub list : List Item

-- these items of this recording by these rules
abbrev pub listed : Signal → RuleNumbers → List Item → ItemsOf
listed b rules items = record { source = b; rules = rules; list = items }
