-- Where an item is, and where the block of a lock is due. No public call cites it: bodies that count places from elsewhere do.
use Rattle.std.specs.Prelude.{ℕ, ◌≤◌, ◌<◌, ⊤}
use Rattle.rds_sync.specs.declared.{state.State.State, state.State.TheVariants.Searching, state.State.TheVariants.Locked, item.Item.Item, item.Item.TheVariants.Acquired, item.Item.TheVariants.Group, item.Item.TheVariants.LostLock}

-- the place of an acquisition or a loss, or of a group's first bit
abbrev pub place_of : Item → ℕ
place_of (Acquired a x) = a
place_of (Group g) = g.place
place_of (LostLock a) = a

-- the block that is waited for, if there is one, ends at this place or later
abbrev pub is_due_from : ℕ → State → Type 0
is_due_from place Searching = ⊤
is_due_from place (Locked lock) = place ≤ lock.due

-- and before this place
abbrev pub is_due_below : ℕ → State → Type 0
is_due_below place Searching = ⊤
is_due_below place (Locked lock) = lock.due < place
