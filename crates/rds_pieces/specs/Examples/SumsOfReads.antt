-- How many windows seams may read: each reach + 2 windows for each place up to the meeting, and as many once
-- more.
use Rattle.std.{specs.Prelude.◌≡◌, specs.Prelude.[], specs.Prelude.◌∷◌, specs.Prelude.None, specs.Prelude.Some, specs.Prelude.refl, proofs.Math.Nat.not-le_of_lt, proofs.lemmas.Bool.leb-true}
use Rattle.rds_sync.specs.{declared.state.State.TheVariants.Searching, declared.state.State.TheVariants.Locked, Acquiring.acquired, Acquiring.has_number, Examples.Words.rules_of, Step.lock_of}
use Rattle.rds_stream.specs.Recording.{offset_at}
use Rattle.rds_pieces.specs.{Meeting.IsMeeting, RunOf.run_over, Seams.IsSumOfReads, Seams.seam_reads, Examples.Meetings.met_at_the_end, Examples.Meetings.three_bits}

-- ---- one seam

pub met_after_18 : seam_reads (rules_of 2 3 10) 190 312 (Some 208) ≡ 95
met_after_18 = refl

pub never_met : seam_reads (rules_of 2 4 10) 190 312 None ≡ 738
never_met = refl

pub met_at_once : seam_reads (rules_of 2 8 10) 104 208 (Some 104) ≡ 10
met_at_once = refl

-- ---- the seams of two runs, added up

-- a search meets a search at its first place
pub at_once : IsMeeting three_bits (rules_of 2 3 1) Searching Searching 2 3 (Some 2)
at_once = record {
  here = record { inside = (leb-true 2 2 refl, leb-true 2 3 refl); same = refl; between = tt };
  least = λ q below met. not-le_of_lt below met.inside.0;
}

-- the first meets at its end, 2 places on, and the second at once
pub met_and_met : IsSumOfReads three_bits (rules_of 2 3 1) (Locked (lock_of 1 4 0 1))
    (run_over three_bits (rules_of 2 3 1) 0 2 ∷ run_over three_bits (rules_of 2 3 1) 2 3 ∷ []) 20
unfolding acquired offset_at has_number
met_and_met = (Some 2, 5, met_at_the_end, (Some 2, 0, at_once, refl, refl), refl)

pub nothing : IsSumOfReads three_bits (rules_of 2 3 1) Searching [] 0
nothing = refl
