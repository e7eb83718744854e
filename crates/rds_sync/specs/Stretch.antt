-- A stretch of a run: up to and including the next bit that gives an item, or to the range's end. Cited by `stretch`.
use Rattle.std.specs.Prelude.{◌≡◌, ◌≢◌, ℕ, ◌-◌, ◌<◌, ◌≤◌, ◌⊎◌, []}
use Rattle.rds_stream.specs.Recording.{Signal}
use Rattle.rds_sync.specs.{declared.step.Step.Step, declared.state.State.State, Advance.items_in, Lawful.IsLawful, Rules.RuleNumbers, Step.run}

-- how far the run from state s before `place` came: nothing was given before the last bit that it went over, and that bit
-- gave the items that are there or is the last before `to`
pub record IsStretch (b : Signal) (rules : RuleNumbers) (s : State) (place to : ℕ)
    (reached : Step) : Type 0 where
  pub forward : place < reached.place
  pub limit : reached.place ≤ to
  pub state : reached.state ≡ (run b rules s place (reached.place - place)).0
  pub items : items_in reached.items ≡ (run b rules s place (reached.place - place)).1
  pub quiet : (run b rules s place (reached.place - 1 - place)).1 ≡ []
  pub ended : (reached.place ≡ to) ⊎ (items_in reached.items ≢ [])
  pub lawful : IsLawful rules reached.place reached.state
