-- The marks of a run: its first place, and the place after each bit that gave an item. Two runs meet first at a mark of
-- one of them. `PieceRun::marks` returns those of a guess. This project's rule.
use Rattle.std.specs.{Prelude.ℕ, Prelude.◌+◌, Prelude.◌-◌, Prelude.Bool, Prelude.List, Prelude.◌∷◌, Prelude.length, Prelude.map, Prelude.filter, Prelude.nat_lt, List.range_with_len}
use Rattle.rds_stream.specs.Recording.{Signal}
use Rattle.rds_sync.specs.{declared.state.State.State, Rules.RuleNumbers, Step.run}
use Rattle.rds_pieces.specs.declared.mark.Mark.{Mark}

module _ (b : Signal) (rules : RuleNumbers) (s : State) (a : ℕ) where
  -- the mark after k bits of the run from state s at place a: the place, the state and the number of items there
  abbrev pub mark_after_bits : ℕ → Mark
  mark_after_bits k =
      record { place = a + k; state = (run b rules s a k).0; items = length (run b rules s a k).1 }

  -- whether the k-th bit gave an item: the run over k bits has more items than the run over k - 1
  abbrev pub gave_item : ℕ → Bool
  gave_item k = nat_lt (mark_after_bits (k - 1)).items (mark_after_bits k).items

  -- all marks of the run over `bits` bits: its first place, and the place after each bit that gave an item
  abbrev pub marks_of : ℕ → List Mark
  marks_of bits =
      record { place = a; state = s; items = 0 }
      ∷ map mark_after_bits (filter gave_item (range_with_len 1 bits))
