-- A zero group and one whose block 1 is lost, cut between the two, by rules that lose a lock at the first bad block: the left run
-- loses its lock, and meets the right guess in the search.
use Rattle.std.{specs.Prelude.◌≡◌, specs.Prelude.◌==◌, specs.Prelude.length, specs.Prelude.refl, proofs.Common.ap, proofs.Common.sym, proofs.lemmas.Bool.false≢true, proofs.lemmas.Bool.leb-true}
use Rattle.rds_stream.specs.Recording.{Signal, bits_of, ungapped}
use Rattle.rds_sync.specs.{declared.state.State.TheVariants.Searching, declared.state.State.TheVariants.Locked, Rules.RuleNumbers, Examples.Reports.one_bad, Examples.Words.computed, Examples.Words.rules_of, Examples.Words.totals, Step.lock_of, Step.run, Totals.totals_of}
use Rattle.rds_pieces.specs.{Guess.guess, Meeting.MeetAt, RunOf.run_over, RunOf.end_of, Examples.Meetings.number_due}

abbrev pub b : Signal
b = ungapped (bits_of one_bad 208)

abbrev pub rules : RuleNumbers
rules = rules_of 2 3 1

pub end_of_the_left : end_of (run_over b rules 0 104) ≡ Locked (lock_of 129 1 0 1)
unfolding computed
end_of_the_left = refl

-- after the bit of the loss both search
pub meets_in_the_search : MeetAt b rules (Locked (lock_of 129 1 0 1)) Searching 104 208 130
unfolding computed
meets_in_the_search = record {
  inside = (leb-true 104 130 refl, leb-true 130 208 refl);
  same = refl;
  between = tt;
}

pub not_before : MeetAt b rules (Locked (lock_of 129 1 0 1)) Searching 104 208 129 → ⊥
unfolding computed
not_before met = false≢true (sym (ap (λ state. number_due state == 1) met.same))

-- up to there the group of the bad block, and the loss
pub own : length (run b rules (Locked (lock_of 129 1 0 1)) 104 26).1 ≡ 2
unfolding computed
own = refl

-- and nothing of the guess
pub nothing_passed : length (guess b rules 104 26).1 ≡ 0
unfolding computed
nothing_passed = refl

pub counted : totals_of (run b rules (Locked (lock_of 129 1 0 1)) 104 104).1 ≡ totals 3 0 0 0 0 0 1 0 2 0 1 1
unfolding computed
counted = refl
