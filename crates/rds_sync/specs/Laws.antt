-- The laws of runs, of the report and of the rules of loss, over only the definitions. Each is cited by the
-- law of `laws` that has its name in small letters: `RunsAreReports` by `runs_are_reports`. This project's
-- rules.
use Rattle.std.specs.Prelude.{◌≡◌, ◌≢◌, ◌↔◌, ℕ, ◌+◌, ◌-◌, ◌*◌, ◌<◌, ◌≤◌, ◌⊎◌, List, [], ◌++◌, Some, None, length, Bool, nat_lt, min, if◌then◌else◌}
use Rattle.std.specs.Int.{bit_at}
use Rattle.rds_stream.specs.Recording.{Signal, length_of}
use Rattle.rds_sync.specs.{declared.lock.Lock.Lock, declared.loss.Loss.Loss, declared.loss.Loss.TheVariants.Run, declared.loss.Loss.TheVariants.Share, declared.state.State.State, declared.state.State.TheVariants.Searching, declared.state.State.TheVariants.Locked, declared.item.Item.Item, declared.step.Step.Step, Advance.next_place, Hop.IsHop, Rules.RuleNumbers, Loss.IsLossRule, Loss.bad_at, Loss.are_too_many, Loss.loses, Acquiring.acquired, Lawful.IsLawful, Lawful.IsBetweenGroups, Step.step, Step.items_at, Step.run, Step.items_of_end, Report.report_items, Stretch.IsStretch}

-- the items of the run over a whole recording, with those of its end, are the report's
abbrev pub RunsAreReports : Type 0
RunsAreReports = (b : Signal) (rules : RuleNumbers) → IsLossRule rules.loss
    → let whole = run b rules Searching 0 (length_of b) in
    whole.1 ++ items_of_end b rules whole.0 ≡ report_items b rules

-- a run over a range, and then from its end over the next range, is the run over both
abbrev pub RunsJoin : Type 0
RunsJoin = (b : Signal) (rules : RuleNumbers) (s : State) (from middle to : ℕ) → from ≤ middle → middle ≤ to
    → let first = run b rules s from (middle - from) in
    let next = run b rules first.0 middle (to - middle) in
    run b rules s from (to - from) ≡ (next.0, first.1 ++ next.1)

-- one bit leads from a lawful state to a lawful state
abbrev pub StepsAreLawful : Type 0
StepsAreLawful = (b : Signal) (rules : RuleNumbers) → IsLossRule rules.loss
    → (place : ℕ) (s : State) → IsLawful rules place s → IsLawful rules (place + 1) (step b rules place s)

-- a run leads from a lawful state to a lawful state
abbrev pub RunsAreLawful : Type 0
RunsAreLawful = (b : Signal) (rules : RuleNumbers) → IsLossRule rules.loss
    → (s : State) (from to : ℕ) → from ≤ to → IsLawful rules from s
    → IsLawful rules to (run b rules s from (to - from)).0

-- two runs over one range that are in one state before some bit have one end, and from that bit on the same items
abbrev pub RunsMerge : Type 0
RunsMerge = (b : Signal) (rules : RuleNumbers) (s t : State) (from middle to : ℕ) → from ≤ middle
    → middle ≤ to
    → let one = run b rules s from in
    let other = run b rules t from in
    (one (middle - from)).0 ≡ (other (middle - from)).0
    → (later : List Item)
    × ((one (to - from)).0 ≡ (other (to - from)).0)
    × ((one (to - from)).1 ≡ (one (middle - from)).1 ++ later)
    × ((other (to - from)).1 ≡ (other (middle - from)).1 ++ later)

-- a run over one bit is that bit
abbrev pub OneBitRuns : Type 0
OneBitRuns = (b : Signal) (rules : RuleNumbers) (s : State) (place : ℕ)
    → run b rules s place 1 ≡ (step b rules place s, items_at b rules place s)

-- while a block is waited for, a run changes nothing and gives nothing
abbrev pub LocksWait : Type 0
LocksWait = (b : Signal) (rules : RuleNumbers) (lock : Lock) (from to : ℕ) → from ≤ to → to ≤ lock.due
    → run b rules (Locked lock) from (to - from) ≡ (Locked lock, [])

-- while no place acquires, a search changes nothing and gives nothing
abbrev pub SearchesGoOn : Type 0
SearchesGoOn = (b : Signal) (rules : RuleNumbers) (from to : ℕ) → from ≤ to
    → ((i : ℕ) → from ≤ i → i < to → acquired b rules i ≡ None)
    → run b rules Searching from (to - from) ≡ (Searching, [])

-- a bit gives an item exactly when it changes the state, and the state was a search or is between groups
-- afterwards
abbrev pub ItemsMarkChanges : Type 0
ItemsMarkChanges = (b : Signal) (rules : RuleNumbers) (place : ℕ) (s : State) → IsLawful rules place s
    → (items_at b rules place s ≢ []) ↔ ((step b rules place s ≢ s)
    × ((s ≡ Searching) ⊎ IsBetweenGroups (step b rules place s)))

-- a run gives at most two items per bit
abbrev pub RunsGiveFewItems : Type 0
RunsGiveFewItems = (b : Signal) (rules : RuleNumbers) (s : State) (from to : ℕ) → from ≤ to
    → length (run b rules s from (to - from)).1 ≤ 2 * (to - from)

-- no place before 51 acquires, and each acquires with a number from 1 to 4
abbrev pub AcquisitionsAreLate : Type 0
AcquisitionsAreLate = (b : Signal) (rules : RuleNumbers) (i x : ℕ) → acquired b rules i ≡ Some x
    → (51 ≤ i) × (1 ≤ x) × (x ≤ 4)

-- bit i of a mask tells whether block k - i was bad, if that is one of the last `of` blocks, and is 0
-- elsewhere
abbrev pub MasksTellBlocks : Type 0
MasksTellBlocks = (is_good : ℕ → Bool) (bad of k i : ℕ)
    → bit_at (bad_at is_good (Share bad of) k) i
    ≡ (if nat_lt i (min of k) then (if is_good (k - i) then 0 else 1) else 0)

-- a lock's loss history triggers a loss exactly when its blocks do
abbrev pub BadBlocksLose : Type 0
BadBlocksLose = (is_good : ℕ → Bool) (loss : Loss) (k : ℕ)
    → are_too_many loss (bad_at is_good loss k) ≡ loses loss is_good k

-- n bad blocks in a row are n bad blocks among the last n
abbrev pub RunsAreShares : Type 0
RunsAreShares = (is_good : ℕ → Bool) (n k : ℕ) → loses (Run n) is_good k ≡ loses (Share n n) is_good k

-- a stretch ends where one step of `advance` does, or that step gives nothing and the rest is a stretch
abbrev pub StretchesAreSteps : Type 0
StretchesAreSteps = (b : Signal) (rules : RuleNumbers) (s : State) (place to : ℕ) (reached : Step)
    → IsLawful rules place s → IsStretch b rules s place to reached
    → let next : ℕ = next_place s place to in
    let after = run b rules s place (next - place) in
    (next ≤ reached.place) × (next < reached.place
    → (after.1 ≡ []) × IsStretch b rules after.0 next to reached)

-- a hop that ends where a stretch does ends in its state
abbrev pub HopsAreStretches : Type 0
HopsAreStretches = (b : Signal) (rules : RuleNumbers) (s after : State) (place near to reads : ℕ)
    (reached : Step)
    → IsHop b rules s place near to reached.place after reads → IsStretch b rules s place to reached
    → after ≡ reached.state
