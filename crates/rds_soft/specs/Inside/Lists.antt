-- How a list keeps its items: entries in order, of which each but a valid group names its number among the others.
use Rattle.std.specs.Prelude.{◌<◌, ◌≤◌, ◌-◌, ◌^◌, ℕ, List, if◌then◌else◌, map, nat_lt, slice_index_or}
use Rattle.rds_soft.specs.{SoftLists.valid_group, declared.soft_item.SoftItem.SoftItem, declared.soft_item.SoftItem.TheVariants.Group, declared.soft_item.SoftItem.TheVariants.LostLock, declared.soft_list.ValidGroup.ValidGroup}

-- the item of an entry: the valid group that it is, or the one of the others that it names
abbrev pub item_at : List SoftItem → ValidGroup → SoftItem
item_at others entry = if nat_lt entry.place (2 ^ 63) then Group (valid_group entry) else slice_index_or others (entry.place - 2 ^ 63) (LostLock 0)

-- the items of these entries
abbrev pub items_at : List SoftItem → List ValidGroup → List SoftItem
items_at others entries = map (item_at others) entries

-- an entry names one of `count` others, if it names any
abbrev pub IsAmong : ℕ → ValidGroup → Type 0
IsAmong count entry = 2 ^ 63 ≤ entry.place → entry.place - 2 ^ 63 < count
