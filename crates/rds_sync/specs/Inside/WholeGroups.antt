-- Whole groups of a lock: one that does not lose it, and how far several in a row lead, as items. Cited by the bodies below
-- `Decoder::fill`, and by no public call.
use Rattle.std.specs.Prelude.{◌≡◌, ℕ, ◌+◌, ◌-◌, ◌<◌, ◌≤◌, List, [], ◌∷◌, ◌++◌, length, map}
use Rattle.rds_stream.specs.Recording.{Signal}
use Rattle.rds_sync.specs.{declared.lock.Lock.Lock, declared.item.Group.Group, declared.item.Item.Item, declared.item.Item.TheVariants.Group as GroupItem, declared.state.State.TheVariants.Locked, Groups.group, Inside.Outcomes.Outcome, Inside.Outcomes.outcome_of, Inside.Outcomes.IsKeptOver, Loss.IsLawfulBad, Rules.RuleNumbers, Step.run}

-- how the blocks came out of the group whose block 1 ends at place due
abbrev pub outcomes_at : Signal → RuleNumbers → ℕ → List Outcome
outcomes_at b rules due = map outcome_of (group b rules 1 4 (due + 78)).blocks

-- that group, none of whose blocks loses the lock, and the loss history after it
pub record IsWhole (b : Signal) (rules : RuleNumbers) (due before : ℕ) (given : Group)
    (after : ℕ) : Type 0 where
  pub given_is : given ≡ group b rules 1 4 (due + 78)
  pub kept : IsKeptOver rules.loss (outcomes_at b rules due) before after

-- that group was appended to the items before, and this is the loss history after it
abbrev pub HasPushed : Signal → RuleNumbers → ℕ → ℕ → List Item → List Item → ℕ → Type 0
HasPushed b rules due before items more after =
    IsWhole b rules due before (group b rules 1 4 (due + 78)) after
    × (more ≡ items ++ GroupItem (group b rules 1 4 (due + 78)) ∷ [])

-- the lock came from between two groups to between two others, and the items of the groups in between were appended
pub record HasGiven (b : Signal) (rules : RuleNumbers) (lock : Lock) (to : ℕ) (before : List Item)
    (now : Lock) (after : List Item) : Type 0 where
  pub between : (now.number ≡ 1) × (now.first ≡ 1)
  pub few_bad : IsLawfulBad rules.loss now.bad
  pub from_on : lock.due ≤ now.due
  pub limit : lock.due < now.due → now.due - 25 ≤ to
  pub more : lock.due < now.due → length before < length after
  pub state : (run b rules (Locked lock) (lock.due - 25) (now.due - lock.due)).0 ≡ Locked now
  pub items : after ≡ before ++ (run b rules (Locked lock) (lock.due - 25) (now.due - lock.due)).1
