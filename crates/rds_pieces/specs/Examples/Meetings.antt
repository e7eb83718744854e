-- Where runs meet: the guess of a piece with the run from the state that is true there, and small ranges in full.
use Rattle.std.{specs.Prelude.◌≡◌, specs.Prelude.◌<◌, specs.Prelude.◌==◌, specs.Prelude.ℕ, specs.Prelude.zero, specs.Prelude.suc, specs.Prelude.[], specs.Prelude.◌∷◌, specs.Prelude.◌++◌, specs.Prelude.None, specs.Prelude.Some, specs.Prelude.refl, proofs.Common.ap, proofs.Common.sym, proofs.Math.Nat.le_of_suc-le-suc, proofs.Math.Nat.not-suc-le-zero, proofs.lemmas.Bool.false≢true, proofs.lemmas.Bool.le-leb, proofs.lemmas.Bool.leb-true}
use Rattle.rds_stream.specs.Recording.{Signal, bits_of, ungapped}
use Rattle.rds_sync.specs.{declared.state.State.State, declared.state.State.TheVariants.Searching, declared.state.State.TheVariants.Locked, Rules.RuleNumbers, Examples.Words.computed, Examples.Words.zero_group, Examples.Words.rules_of, Step.lock_of}
use Rattle.rds_pieces.specs.Meeting.{IsMeeting, MeetAt, distance}

-- whether it is a lock, and the number of the block that is due
abbrev pub number_due : State → ℕ
number_due Searching = 0
number_due (Locked lock) = lock.number

-- ---- three zero groups, cut at 190, where the true state waits for the block 4 that ends at 207

abbrev pub b : Signal
b = ungapped (bits_of (zero_group ++ zero_group ++ zero_group) 312)

abbrev pub cut_at_190 : RuleNumbers → ℕ → Type 0
cut_at_190 rules = MeetAt b rules (Locked (lock_of 207 4 0 1)) Searching 190 312

-- the guess acquires at that block, and both wait for the next block 1
pub at_208 : cut_at_190 (rules_of 2 3 10) 208
unfolding computed
at_208 = record { inside = (leb-true 190 208 refl, leb-true 208 312 refl); same = refl; between = refl }

pub not_before : cut_at_190 (rules_of 2 3 10) 207 → ⊥
unfolding computed
not_before met = false≢true (sym (ap (λ state. number_due state == 4) met.same))

-- one block later they are in one state too, but in a group
pub not_in_a_group : cut_at_190 (rules_of 2 3 10) 234 → ⊥
unfolding computed
not_in_a_group met = false≢true (ap (λ number. number == 1) met.between)

-- with reach 4 the guess locks at a false phase, and then they are never in one state
pub not_in_the_phase : cut_at_190 (rules_of 2 4 10) 208 → ⊥
unfolding computed
not_in_the_phase met = false≢true (sym (ap (λ state. number_due state == 1) met.same))

-- the end of the range counts, and no place past it
pub at_the_end : MeetAt b (rules_of 2 3 10) (Locked (lock_of 207 4 0 1)) Searching 190 208 208
unfolding computed
at_the_end = record { inside = (leb-true 190 208 refl, leb-true 208 208 refl); same = refl; between = refl }

pub not_past_the_end : MeetAt b (rules_of 2 3 10) (Locked (lock_of 207 4 0 1)) Searching 190 207 208 → ⊥
not_past_the_end met = false≢true (le-leb 208 207 met.inside.1)

-- ---- three bits without a window: a lock is lost at place 1 by the first bad block, and the run is a search from
-- place 2 on

abbrev pub three_bits : Signal
three_bits = ungapped (0 ∷ 0 ∷ 0 ∷ [])

abbrev pub with_search : ℕ → ℕ → ℕ → Type 0
with_search from to = MeetAt three_bits (rules_of 2 3 1) (Locked (lock_of 1 4 0 1)) Searching from to

pub not_at_0 : (to : ℕ) → with_search 0 to 0 → ⊥
not_at_0 to met = false≢true (sym (ap (λ state. number_due state == 4) met.same))

pub not_at_1 : (to : ℕ) → with_search 0 to 1 → ⊥
unfolding computed
not_at_1 to met = false≢true (sym (ap (λ state. number_due state == 4) met.same))

pub before_2 : (to q : ℕ) → q < 2 → with_search 0 to q → ⊥
before_2 to zero below met = not_at_0 to met
before_2 to (suc zero) below met = not_at_1 to met
before_2 to (suc (suc q)) below met = not-suc-le-zero (le_of_suc-le-suc (le_of_suc-le-suc below))

-- the least place, inside the range and at its end
pub met_inside : IsMeeting three_bits (rules_of 2 3 1) (Locked (lock_of 1 4 0 1)) Searching 0 3 (Some 2)
unfolding computed
met_inside = record {
  here = record { inside = (leb-true 0 2 refl, leb-true 2 3 refl); same = refl; between = tt };
  least = before_2 3;
}

pub met_at_the_end : IsMeeting three_bits (rules_of 2 3 1) (Locked (lock_of 1 4 0 1)) Searching 0 2 (Some 2)
unfolding computed
met_at_the_end = record {
  here = record { inside = (leb-true 0 2 refl, leb-true 2 2 refl); same = refl; between = tt };
  least = before_2 2;
}

-- not at a later place
pub not_the_second : IsMeeting three_bits (rules_of 2 3 1) (Locked (lock_of 1 4 0 1)) Searching 0 3 (Some 3)
    → ⊥
not_the_second met = met.least 2 (leb-true 3 3 refl) met_inside.here

-- in a range of only the first bit they do not meet
pub none : IsMeeting three_bits (rules_of 2 3 1) (Locked (lock_of 1 4 0 1)) Searching 0 1 None
none zero met = not_at_0 1 met
none (suc zero) met = not_at_1 1 met
none (suc (suc q)) met = not-suc-le-zero (le_of_suc-le-suc met.inside.1)

-- ---- distances: to the meeting, to the end if there is none, and at once
pub distances : (distance 190 312 (Some 208) ≡ 18) × (distance 190 312 None ≡ 122) × (distance 190 312 (Some 190) ≡ 0)
distances = (refl, refl, refl)
