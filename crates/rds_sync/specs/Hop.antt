-- A hop of a run over a tape: a search up to the first place that acquires or up to another place, a lock up to where its group closes
-- or up to the range's end; and how many windows it asks for. Cited by `Tally::hop`. This project's rule.
use Rattle.std.specs.Prelude.{◌≡◌, ℕ, ◌+◌, ◌-◌, ◌*◌, ◌<◌, ◌≤◌, ◌⊎◌}
use Rattle.rds_stream.specs.Recording.{Signal}
use Rattle.rds_sync.specs.{declared.state.State.State, declared.state.State.TheVariants.Searching, declared.state.State.TheVariants.Locked, Lawful.IsBetweenGroups, Rules.RuleNumbers, Step.run}

-- the place at which the next block ends; 25 places on if none is known
abbrev pub mark : ℕ → State → ℕ
mark place Searching = place + 25
mark place (Locked lock) = lock.due

module _ (b : Signal) (rules : RuleNumbers) where
  -- a search asks for reach + 1 windows per place, and moves no further than to `near`. A lock asks for none
  -- and stays the same, or for 4 at most and is then due at least 26 places later
  abbrev pub IsPaidHop : State → ℕ → ℕ → ℕ → State → ℕ → Type 0
  IsPaidHop Searching place near next after reads = (next ≤ near)
      × (reads ≤ (rules.reach + 1) * (next - place)) × (place + 25 ≤ mark next after)
  IsPaidHop (Locked lock) place near next after reads = ((reads ≡ 0) × (after ≡ Locked lock))
      ⊎ ((reads ≤ 4) × (lock.due + 26 ≤ mark next after))

  -- a hop from state s before `place` to the state `after` before `next`, which asks for `reads` windows
  pub record IsHop (s : State) (place near to next : ℕ) (after : State) (reads : ℕ) : Type 0 where
    pub moved : (place < next) × (next ≤ to)
    pub state_is : after ≡ (run b rules s place (next - place)).0
    -- a state between groups inside it is the one that it began in
    pub quiet : (n : ℕ) → place + n < next → IsBetweenGroups (run b rules s place n).0
        → (run b rules s place n).0 ≡ s
    pub paid : IsPaidHop s place near next after reads
