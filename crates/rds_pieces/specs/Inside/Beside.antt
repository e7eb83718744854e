-- A run and its guess that go on side by side. `hop_first` promises a step, and `go_beside` the places that
-- they came to.
use Rattle.std.specs.Prelude.{◌≡◌, ◌≢◌, ℕ, ◌<◌, ◌⊎◌, Option, Some, None}
use Rattle.rds_stream.specs.Recording.{Signal}
use Rattle.rds_sync.specs.{declared.state.State.State, declared.state.State.TheVariants.Searching, Hop.IsHop, Lawful.IsBetweenGroups, Rules.RuleNumbers, Tally.TallyOf, Tally.gone_on}

-- both are at one place in one state, with no group in progress
abbrev pub Meet : TallyOf → TallyOf → Type 0
Meet own guess = (own.place ≡ guess.place) × (own.state ≡ guess.state) × IsBetweenGroups own.state

-- of two runs this one may hop: its place is less than the other's, or the same and it is not searching
abbrev pub IsFirst : ℕ → State → ℕ → Type 0
IsFirst place state other = (place < other) ⊎ ((place ≡ other) × (state ≢ Searching))

module _ (b : Signal) (rules : RuleNumbers) (to : ℕ) where
  -- a run hops, while the other is at place `near`, and asks for `reads` windows
  pub record IsHopped (near : ℕ) (old new : TallyOf) (reads : ℕ) : Type 0 where
    pub gone : new ≡ gone_on old new.place
    pub hop : IsHop b rules old.state old.place near to new.place new.state reads

  -- the run hops if it is first, else its guess, and the other stays
  abbrev pub IsStep : TallyOf → TallyOf → TallyOf → TallyOf → ℕ → Type 0
  IsStep own guess own2 guess2 reads =
      (IsFirst own.place own.state guess.place × IsHopped guess.place own own2 reads × (guess2 ≡ guess))
      ⊎ ((¬ IsFirst own.place own.state guess.place) × IsHopped own.place guess guess2 reads × (own2 ≡ own))

-- the place of the meeting, or the range's end if there is none
abbrev pub come_to : ℕ → Option ℕ → ℕ
come_to to met = elim met [ None ↦ to | Some p ↦ p ]
