-- The condition on two runs that are joined, and the cost of their join. `join_runs` cites both, and callers
-- rely on the fields as on clauses; `Work::join` cites the first.
use Rattle.std.specs.Prelude.{◌≡◌, ℕ, ◌+◌, ◌-◌, ◌*◌, ◌≤◌, IsOkUnless, OnOk, Option, Result}
use Rattle.rds_stream.specs.Recording.{Signal}
use Rattle.rds_sync.specs.{declared.state.State.TheVariants.Searching, Rules.RuleNumbers}
use Rattle.rds_pieces.specs.{Meeting.IsMeeting, RunOf.IsRunOf, RunOf.RunOf, RunOf.end_of, Seams.seam_reads, Soon.MeetSoon}
use Rattle.rds_code.specs.declared.error.RdsError.{RdsError, TheVariants.OutOfMemory}

module _ (b : Signal) (rules : RuleNumbers) (left right : RunOf) where
  -- runs of this recording, by these rules, of which the right one begins where the left one ends
  pub record AreNeighbours : Type 0 where
    pub next : left.to ≡ right.from
    pub left_is : IsRunOf b rules left
    pub right_is : IsRunOf b rules right

  -- the answer to a join over a tape that had counted `old` windows and has now counted `new`
  pub record IsJoin {A : Type 0} (old new : ℕ) (result : Result A RdsError) : Type 0 where
    pub err : IsOkUnless result OutOfMemory
    -- if a sound range is inside the right run's, the left one's end meets it by that range's end
    pub soon : OnOk result (MeetSoon b rules (end_of left) Searching right.from right.to)
    -- it reads on up to the meeting, and no more if it is refused memory
    pub reads : OnOk result ((met : Option ℕ)
        × IsMeeting b rules (end_of left) Searching right.from right.to met
        × (new ≤ old + seam_reads rules right.from right.to met))
    pub reads_way : (met : Option ℕ) → IsMeeting b rules (end_of left) Searching right.from right.to met
        → new ≤ old + seam_reads rules right.from right.to met
    pub reads_most : new ≤ old + (rules.reach + 2) * (right.to - right.from + 1)
