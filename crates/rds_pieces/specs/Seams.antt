-- How many windows the seams of runs that follow each other may read. `seam`, `join_runs` and `stitch` read
-- no more.
use Rattle.std.specs.Prelude.{◌≡◌, ℕ, ◌+◌, ◌-◌, ◌*◌, List, [], ◌∷◌, Option}
use Rattle.rds_stream.specs.Recording.{Signal}
use Rattle.rds_sync.specs.{declared.state.State.State, declared.state.State.TheVariants.Searching, Rules.RuleNumbers, Step.run}
use Rattle.rds_pieces.specs.{Meeting.IsMeeting, Meeting.distance, RunOf.RunOf}

-- of one seam: reach + 2 windows for each place up to the meeting, or to the end of the piece, and as many once more
abbrev pub seam_reads : RuleNumbers → ℕ → ℕ → Option ℕ → ℕ
seam_reads rules from to met = (rules.reach + 2) * (distance from to met + 1)

module _ (b : Signal) (rules : RuleNumbers) where
  -- the state after the piece of a run
  abbrev pub state_after : State → RunOf → State
  state_after s r = (run b rules s r.from (r.to - r.from)).0

  -- n is the sum of the windows that the seams of the runs may read, if s is the state at the first
  abbrev pub IsSumOfReads : State → List RunOf → ℕ → Type 0
  IsSumOfReads s [] n = n ≡ 0
  IsSumOfReads s (r ∷ rs) n = (met : Option ℕ) × (rest : ℕ) × IsMeeting b rules s Searching r.from r.to met
      × IsSumOfReads (state_after s r) rs rest
      × (n ≡ seam_reads rules r.from r.to met + rest)
