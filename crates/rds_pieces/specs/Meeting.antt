-- The place where two runs meet: this project's rule. `seam` returns it. `seam` and `join_runs` bound their reads by it.
use Rattle.std.specs.Prelude.{◌≡◌, ℕ, ◌-◌, ◌<◌, ◌≤◌, Option, Some, None, MatchOption}
use Rattle.rds_stream.specs.Recording.{Signal}
use Rattle.rds_sync.specs.{declared.state.State.State, Rules.RuleNumbers, Lawful.IsBetweenGroups, Step.run}

module _ (b : Signal) (rules : RuleNumbers) (s t : State) (from to : ℕ) where
  -- before the bit at p both runs are in the same state, with no group in progress; p may be the range's end
  pub record MeetAt (p : ℕ) : Type 0 where
    pub inside : (from ≤ p) × (p ≤ to)
    pub same : (run b rules s from (p - from)).0 ≡ (run b rules t from (p - from)).0
    pub between : IsBetweenGroups (run b rules s from (p - from)).0

  -- p is the least place where they meet
  pub record MeetFirstAt (p : ℕ) : Type 0 where
    pub here : MeetAt p
    pub least : (q : ℕ) → q < p → ¬ MeetAt q

  -- the least place where they meet, or none if they do not
  abbrev pub IsMeeting : Option ℕ → Type 0
  IsMeeting met = MatchOption met ((q : ℕ) → ¬ MeetAt q) MeetFirstAt

-- the number of bits from the range's first place to the meeting, or to its end if the runs do not meet
abbrev pub distance : ℕ → ℕ → Option ℕ → ℕ
distance from to met = elim met [ None ↦ to - from | Some p ↦ p - from ]
