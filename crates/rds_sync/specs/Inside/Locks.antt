-- A lock that is followed from block to block: the effect of a block on it, and the blocks of the group in progress. Cited by the bodies
-- of all that follow a lock, and by no public call. This project's rule.
use Rattle.std.specs.Prelude.{◌≡◌, ◌<◌, Bool, true, false, ◌≢◌, ◌+◌, ◌-◌, ◌*◌, List, [], ◌∷◌, ℕ, Option, Some, None}
use Rattle.rds_sync.specs.{Advance.items_in, declared.step.Step.Step, declared.due.Due.Due, declared.due.Due.TheVariants.Inside, declared.due.Due.TheVariants.Closed, declared.due.Due.TheVariants.Lost, declared.lock.Lock.Lock, declared.loss.Loss.Loss, declared.state.State.State, declared.state.State.TheVariants.Searching, declared.state.State.TheVariants.Locked, Loss.bad_after, Loss.are_too_many, Loss.IsLawfulBad, Step.lock_after, Step.items_at, declared.item.Block.Block, declared.item.Item.Item, declared.item.Item.TheVariants.Group, declared.item.Item.TheVariants.LostLock, Groups.blocks_at, Groups.group_of, Lawful.AreInOrder, Lawful.HaveRoom, Rules.RuleNumbers}
use Rattle.rds_stream.specs.Recording.{Signal, length_of}

-- the state to which a block that was due led
abbrev pub state_of : Due → State
state_of (Inside next) = Locked next
state_of (Closed next) = Locked next
state_of Lost = Searching

-- the lock is kept, with the loss history after the block
pub record IsKept (loss : Loss) (lock : Lock) (good : Bool) (next : Lock) : Type 0 where
  pub few_bad : are_too_many loss (bad_after loss good lock.bad) ≡ false
  pub next_is : next ≡ lock_after lock.due lock.number (bad_after loss good lock.bad) lock.first

-- the effect of the block that is due on this lock, whether it is good or not
abbrev pub IsAfter : Loss → Lock → Bool → Due → Type 0
IsAfter loss lock good (Inside next) = (lock.number < 4) × IsKept loss lock good next
IsAfter loss lock good (Closed next) = (lock.number ≡ 4) × IsKept loss lock good next
IsAfter loss lock good Lost = are_too_many loss (bad_after loss good lock.bad) ≡ true

-- these are the blocks of the group in progress
abbrev pub IsInProgress : Signal → RuleNumbers → Lock → List Block → Type 0
IsInProgress b rules lock blocks = blocks ≡ blocks_at b rules lock.first (lock.number - 1) (lock.due - 26)

-- a lock that can be followed: it is not lost, and the recording has the blocks of its group that are read
-- already
pub record IsReadable (b : Signal) (rules : RuleNumbers) (lock : Lock) : Type 0 where
  pub few_bad : IsLawfulBad rules.loss lock.bad
  pub start : HaveRoom lock.first lock.number lock.due
  pub reached : lock.due < length_of b + 26
  pub in_order : AreInOrder lock.first lock.number

-- the group of a lock's blocks that ends with the one that was due
abbrev pub closing : Lock → List Block → Item
closing lock blocks = Group (group_of (lock.due - 26 * (lock.number - lock.first) - 25) blocks)

-- the items of the block that was due, given the blocks of its group and its effect, as a step has them
abbrev pub slots_of : Lock → List Block → Due → List (Option Item)
slots_of lock blocks (Inside next) = None ∷ None ∷ []
slots_of lock blocks (Closed next) = Some (closing lock blocks) ∷ None ∷ []
slots_of lock blocks Lost = Some (closing lock blocks) ∷ Some (LostLock lock.due) ∷ []

abbrev pub items_of_due : Lock → List Block → Due → List Item
items_of_due lock blocks due = items_in (slots_of lock blocks due)

-- how far a lock is followed by it: up to `to` if the group continues
abbrev pub place_by : ℕ → Lock → Due → ℕ
place_by to lock (Inside next) = to
place_by to lock (Closed next) = lock.due + 1
place_by to lock Lost = lock.due + 1

abbrev pub step_by : ℕ → Lock → List Block → Due → Step
step_by to lock blocks due = record {
  place = place_by to lock due;
  state = state_of due;
  items = slots_of lock blocks due;
}

-- if the group continues, nothing was given, the next block of the group is due after 26 places, and the blocks are those
-- read so far
pub record GoesOn (b : Signal) (rules : RuleNumbers) (lock next : Lock) (blocks : List Block) : Type 0 where
  pub nothing : items_at b rules lock.due (Locked lock) ≡ []
  pub follows : (next.due ≡ lock.due + 26) × (next.number ≡ lock.number + 1) × (next.first ≡ lock.first)
  pub in_progress : IsInProgress b rules next blocks

-- and if the block closed it, an item was given
abbrev pub IsFollowed : Signal → RuleNumbers → Lock → List Block → Due → Type 0
IsFollowed b rules lock blocks (Inside next) = GoesOn b rules lock next blocks
IsFollowed b rules lock blocks (Closed next) = items_at b rules lock.due (Locked lock) ≢ []
IsFollowed b rules lock blocks Lost = items_at b rules lock.due (Locked lock) ≢ []
