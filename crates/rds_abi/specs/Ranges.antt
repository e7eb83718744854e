-- A run that goes on from a state which the caller keeps as plain numbers. `run` and `finish_run` cite it. This project's rules.
use Rattle.std.specs.Prelude.{◌≡◌, ℕ, ◌-◌, ◌<◌, ◌≤◌, ◌⊎◌, ◌==◌, List, map, if◌then◌else◌}
use Rattle.rds_stream.specs.Recording.{Signal}
use Rattle.rds_live.specs.Moving.{moved_items, moved_state}
use Rattle.rds_sync.specs.{Rules.RuleNumbers, Lawful.IsLawful as IsLawfulState, Step.items_of_end, Step.run, Step.lock_of, declared.item.Item.Item, declared.loss.Loss.Loss, declared.loss.Loss.TheVariants.Run, declared.loss.Loss.TheVariants.Share, declared.state.State.State, declared.state.State.TheVariants.Locked, declared.state.State.TheVariants.Searching}
use Rattle.rds_abi.specs.{Asked.Asked, Asked.IsLawful, Asked.IsTooMuch, Asked.Refuses, Asked.recording_of, Asked.rules_of, Layout.item_in_c, declared.layout.RdsState.RdsState, declared.ranges.Start.Start, declared.layout.RdsItem.RdsItem, declared.refusal.Refusal.Refusal, declared.refusal.Refusal.TheVariants.PlaceRange, declared.refusal.Refusal.TheVariants.UnlawfulState}

-- the state that these numbers say: the number 0 of a block is a search
abbrev pub state_of : RdsState → State
state_of s = if s.number == 0 then Searching else Locked (lock_of s.due s.number s.bad s.first)

-- a rule of loss as two numbers: how many bad blocks, and among how many, or 0
abbrev pub loss_in_c : Loss → ℕ × ℕ
loss_in_c (Run n) = (n, 0)
loss_in_c (Share bad of) = (bad, of)

-- a search: all 0
abbrev pub searching_in_c : RdsState
searching_in_c = record { due = 0; bad = 0; number = 0; first = 0; loss = 0; of = 0; reserved = 0 }

-- and a state by rules as such numbers: all 0 without sync, and else with the rule of loss that its bad blocks were counted by
abbrev pub state_in_c : RuleNumbers → State → RdsState
state_in_c rules Searching = searching_in_c
state_in_c rules (Locked lock) = record {
  due = lock.due;
  bad = lock.bad;
  number = lock.number;
  first = lock.first;
  loss = (loss_in_c rules.loss).0;
  of = (loss_in_c rules.loss).1;
  reserved = 0;
}

-- a state that a call can have left before a place: it is lawful there, and its numbers are those that a call writes of it
abbrev pub IsLeftState : RuleNumbers → ℕ → RdsState → Type 0
IsLeftState rules place s = IsLawfulState rules place (state_of s) × (s ≡ state_in_c rules (state_of s))

-- the further errors of a run: places that are no range of the recording, and then a state that no call can have left before them
abbrev pub RefusesPlaces : Asked → ℕ → ℕ → RdsState → Refusal → Type 0
RefusesPlaces a from to s PlaceRange = (to < from) ⊎ (a.bits < to)
RefusesPlaces a from to s UnlawfulState = (from ≤ to) × (to ≤ a.bits) × (IsLeftState (rules_of a.rules) from s → ⊥)
RefusesPlaces a from to s other = ⊥

-- the recording and the rules are checked first
abbrev pub RefusesRun : Asked → ℕ → ℕ → RdsState → Refusal → Type 0
RefusesRun a from to s refusal = Refuses a refusal ⊎ (IsLawful a × RefusesPlaces a from to s refusal)

-- nothing of it
pub record IsRun (a : Asked) (from to : ℕ) (s : RdsState) : Type 0 where
  pub asked : IsLawful a
  pub order : from ≤ to
  pub within : to ≤ a.bits
  pub state : IsLeftState (rules_of a.rules) from s

-- ---- items

-- the run over the places from `from` to before `to`
abbrev pub run_asked : Asked → ℕ → ℕ → RdsState → State × List Item
run_asked a from to s =
    run (recording_of a.bytes a.bits a.gaps) (rules_of a.rules) (state_of s) from (to - from)

-- the same by a run over a part of the recording that begins at place `before`, from a state there
abbrev pub run_in_part : Signal → RuleNumbers → State → ℕ → ℕ → ℕ → State × List Item
run_in_part part rules s before from to =
    let there = run part rules s (from - before) (to - before - (from - before)) in (moved_state before there.0, moved_items before there.1)

abbrev pub run_from : Start → ℕ × ℕ → State × List Item
run_from start range = run_in_part start.part.recording start.rules start.state start.part.before range.0 range.1

abbrev pub items_of_run : Asked → ℕ → ℕ → RdsState → List RdsItem
items_of_run a from to s = map item_in_c (run_asked a from to s).1

-- the group in progress at the recording's end, if there is one
abbrev pub items_at_end : Asked → RdsState → List RdsItem
items_at_end a s = map item_in_c (items_of_end (recording_of a.bytes a.bits a.gaps) (rules_of a.rules) (state_of s))

-- the room is too small for the items of a run, and for the group in progress, and `new` is their number, or the call is refused
abbrev pub RefusesItemsOfRun : Asked → ℕ → ℕ → RdsState → ℕ → ℕ → ℕ → Refusal → Type 0
RefusesItemsOfRun a from to s room old new refusal =
    (IsRun a from to s × IsTooMuch (items_of_run a from to s) room refusal new) ⊎ (RefusesRun a from to s refusal × (new ≡ old))

abbrev pub RefusesItemsAtEnd : Asked → RdsState → ℕ → ℕ → ℕ → Refusal → Type 0
RefusesItemsAtEnd a s room old new refusal =
    (IsRun a a.bits a.bits s × IsTooMuch (items_at_end a s) room refusal new) ⊎ (RefusesRun a a.bits a.bits s refusal × (new ≡ old))
