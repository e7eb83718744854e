-- The zero group twice, cut between the two: the guesses of both pieces with their marks, and the guess of both ranges.
use Rattle.std.specs.Prelude.{◌≡◌, [], ◌∷◌, ◌++◌, length, refl}
use Rattle.rds_stream.specs.Recording.{Signal, bits_of, ungapped}
use Rattle.rds_sync.specs.{declared.state.State.TheVariants.Searching, declared.state.State.TheVariants.Locked, Examples.Words.computed, Examples.Words.zero_group, Examples.Words.default_rules, Step.lock_of}
use Rattle.rds_pieces.specs.{Guess.guess, Marks.marks_of}

abbrev pub b : Signal
b = ungapped (bits_of (zero_group ++ zero_group) 208)

-- an acquisition and a group
pub the_first : ((guess b default_rules 0 104).0 ≡ Locked (lock_of 129 1 0 1)) × (length (guess b default_rules 0 104).1 ≡ 2)
unfolding computed
the_first = (refl, refl)

-- its windows look before the cut, so its first block is known
pub the_second : ((guess b default_rules 104 26).0 ≡ Locked (lock_of 155 2 0 1)) × (length (guess b default_rules 104 104).1 ≡ 2)
unfolding computed
the_second = (refl, refl)

-- joined, the acquisition of the second is not among them
pub both : ((guess b default_rules 0 208).0 ≡ Locked (lock_of 233 1 0 1)) × (length (guess b default_rules 0 208).1 ≡ 3)
unfolding computed
both = (refl, refl)

pub marks_of_the_first : marks_of b default_rules Searching 0 104 ≡
    record { place = 0; state = Searching; items = 0 }
    ∷ record { place = 52; state = Locked (lock_of 77 3 0 2); items = 1 }
    ∷ record { place = 104; state = Locked (lock_of 129 1 0 1); items = 2 }
    ∷ []
unfolding computed
marks_of_the_first = refl

pub marks_of_the_second : marks_of b default_rules Searching 104 104 ≡
    record { place = 104; state = Searching; items = 0 }
    ∷ record { place = 130; state = Locked (lock_of 155 2 0 1); items = 1 }
    ∷ record { place = 208; state = Locked (lock_of 233 1 0 1); items = 2 }
    ∷ []
unfolding computed
marks_of_the_second = refl

-- joined, the mark at the cut is that of the item before it, and the last one counts the items of both pieces
pub marks_of_both : marks_of b default_rules Searching 0 208 ≡
    record { place = 0; state = Searching; items = 0 }
    ∷ record { place = 52; state = Locked (lock_of 77 3 0 2); items = 1 }
    ∷ record { place = 104; state = Locked (lock_of 129 1 0 1); items = 2 }
    ∷ record { place = 208; state = Locked (lock_of 233 1 0 1); items = 3 }
    ∷ []
unfolding computed
marks_of_both = refl
