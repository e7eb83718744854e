-- The zero group three times, cut after the first: the items that a join takes from both guesses.
use Rattle.std.{specs.Prelude.◌≡◌, specs.Prelude.◌∷◌, specs.Prelude.◌++◌, specs.Prelude.List, specs.Prelude.[], specs.Prelude.drop, specs.Prelude.length, specs.Prelude.refl, proofs.lemmas.Bool.leb-true}
use Rattle.rds_stream.specs.Recording.{Signal, bits_of, ungapped}
use Rattle.rds_sync.specs.{declared.state.State.TheVariants.Searching, declared.state.State.TheVariants.Locked, declared.item.Item.Item, declared.item.Item.TheVariants.Acquired, Examples.Words.computed, Examples.Words.whole_at, Examples.Words.zero_group, Examples.Words.default_rules, Examples.Words.totals, Step.lock_of, Step.run, Totals.totals_of}
use Rattle.rds_pieces.specs.{Guess.guess, Meeting.MeetAt, RunOf.run_over, RunOf.end_of}

abbrev pub b : Signal
b = ungapped (bits_of (zero_group ++ zero_group ++ zero_group) 312)

-- the left guess ends in the lock, and goes on from there
pub end_of_the_left : end_of (run_over b default_rules 0 104) ≡ Locked (lock_of 129 1 0 1)
unfolding computed
end_of_the_left = refl

-- after its first group the run from there is in the state of the right guess, which acquired within that group
pub meets_behind_the_group : MeetAt b default_rules (Locked (lock_of 129 1 0 1)) Searching 104 312 208
unfolding computed
meets_behind_the_group = record {
  inside = (leb-true 104 208 refl, leb-true 208 312 refl);
  same = refl;
  between = refl;
}

-- two items of the right guess come before the meeting: its acquisition, and the group that it acquired in
pub passed : length (guess b default_rules 104 104).1 ≡ 2
unfolding computed
passed = refl

-- the items of the right guess, and those of the run from the left end: up to the meeting, and over the right range
abbrev pub guessed : List Item
guessed = (guess b default_rules 104 208).1

abbrev pub own : List Item
own = (run b default_rules (Locked (lock_of 129 1 0 1)) 104 104).1

abbrev pub whole : List Item
whole = (run b default_rules (Locked (lock_of 129 1 0 1)) 104 208).1

pub given : (guessed ≡ Acquired 129 1 ∷ whole_at 104 ∷ whole_at 208 ∷ []) × (own ≡ whole_at 104 ∷ []) × (whole ≡ whole_at 104 ∷ whole_at 208 ∷ [])
unfolding computed
given = (refl, refl, refl)

-- the run up to the meeting, and the right guess from there on
pub joined : own ++ drop 2 guessed ≡ whole
joined = rw (given.0, given.1, given.2) refl

-- the group before the meeting is not taken of both
pub not_twice : own ++ drop 1 guessed ≡ whole → ⊥
not_twice = rw (given.0, given.1, given.2) (λ same. cc same)

-- and not of none
pub not_left_out : drop 2 guessed ≡ whole → ⊥
not_left_out = rw (given.0, given.2) (λ same. cc same)

-- the totals over the right range: of both groups
pub counted : totals_of whole ≡ totals 8 0 0 0 0 0 0 0 2 2 0 0
counted = rw given.2 refl
