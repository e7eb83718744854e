-- How far one step of a decoder moves that takes its windows from a tape, how many windows it asks for, and
-- the items that it hands out. Cited by `advance`, `finish` and `Totals::of_end`, and by the stretches of
-- `Stretch`. This project's rule.
use Rattle.std.specs.Prelude.{ℕ, ◌+◌, List, [], ◌∷◌, Option, Some, None, true, false, nat_lt}
use Rattle.rds_sync.specs.{declared.state.State.State, declared.state.State.TheVariants.Searching, declared.state.State.TheVariants.Locked, declared.item.Group.Group as GroupRecord, declared.item.Item.Item, declared.item.Item.TheVariants.Group, Rules.RuleNumbers}

-- the place of the bit after a step from `place` in a range that ends before `to`: a search takes one bit, a
-- lock all up to and including the block that is due
abbrev pub next_place : State → ℕ → ℕ → ℕ
next_place Searching place to = place + 1
next_place (Locked lock) place to = elim (nat_lt lock.due to) [ true ↦ lock.due + 1 | false ↦ to ]

-- how many windows a step asks for at most: its own and a partner's at each distance, or a group's four blocks
abbrev pub reads_most : RuleNumbers → State → ℕ → ℕ
reads_most rules Searching to = rules.reach + 1
reads_most rules (Locked lock) to = elim (nat_lt lock.due to) [ true ↦ 4 | false ↦ 0 ]

-- the items that are there, in order
abbrev pub items_in : List (Option Item) → List Item
items_in [] = []
items_in (None ∷ slots) = items_in slots
items_in (Some item ∷ slots) = item ∷ items_in slots

-- the item of the group that is there
abbrev pub group_item : Option GroupRecord → List Item
group_item None = []
group_item (Some group) = Group group ∷ []
