-- Runs over ranges, from states of their own; what is left of them; and the steps that they take.
use Rattle.std.{specs.Prelude.not, specs.Prelude.◌≡◌, specs.Prelude.◌==◌, specs.Prelude.List, specs.Prelude.[], specs.Prelude.◌∷◌, specs.Prelude.map, specs.Prelude.Some, specs.Prelude.None, specs.Prelude.refl, specs.List.filter, proofs.Common.ap, proofs.Common.sym, proofs.lemmas.Bool.false≢true}
use Rattle.rds_stream.specs.Recording.{length_of}
use Rattle.rds_sync.specs.Examples.Words.{Signal, State, Searching, Locked, lock_of, run, Item, Acquired, LostLock, Unknown, A, OA, computed, first, zero_group, zero_groups, rules_of, rules_with_share, default_rules, missing, corrected, lost, b0, c0, d0, group_at, from_2_at, from_3_at, only_4_at, lost_1_at, items_of_whole, and_then, due_1}
use Rattle.rds_sync.specs.{Advance.next_place, Advance.reads_most, Decoding.DecoderOf, Decoding.decoder_of, Decoding.GivesNext, Decoding.listed, Report.report_items, Step.items_of_end, Totals.is_group, Examples.Reports.one_bad, Examples.Reports.two_bad, Examples.Reports.items_lost, Examples.Reports.block_1_loses}

abbrev pub b : Signal
b = first 104 zero_group

-- ---- over the zero group

pub over_the_zero_group : (run b default_rules Searching 0 51 ≡ (Searching, []))
    × (run b default_rules Searching 0 60 ≡ (Locked (lock_of 77 3 0 2), Acquired 51 2 ∷ []))
    × (run b default_rules Searching 0 104 ≡ (due_1 129, items_of_whole))
    -- from place 60 on, the windows before it still serve as partners
    × (run b default_rules Searching 60 18 ≡ (Locked (lock_of 103 4 0 3), Acquired 77 3 ∷ []))
    × (run b default_rules Searching 60 44 ≡ (due_1 129, Acquired 77 3 ∷ from_3_at 52 ∷ []))
    -- a tenth bad block at place 30 loses the lock, and the search after it acquires at place 51
    × (run b default_rules (Locked (lock_of 30 1 9 1)) 20 84
    ≡ (due_1 129, lost_1_at 5 ∷ LostLock 30 ∷ items_of_whole))
    -- at the bit of a loss nothing is acquired, though place 51 would be: the next place that acquires is 77
    × (run b default_rules (Locked (lock_of 51 1 9 1)) 30 74 ≡ (
      due_1 129,
      group_at 26 None Unknown (corrected OA 0x0300 0x00c0000) missing missing missing
          ∷ LostLock 51 ∷ Acquired 77 3 ∷ from_3_at 52 ∷ [],
    ))
    -- the end of the recording closes the group in progress
    × (items_of_end b default_rules (Locked (lock_of 103 4 0 2))
    ≡ group_at 26 (Some 0) A missing b0 c0 missing ∷ [])
unfolding computed
over_the_zero_group = (refl, refl, refl, refl, refl, refl, refl, refl)

-- ---- with losses: their masks after the block at place 207

pub with_losses : ((run (first 208 one_bad) (rules_of 2 3 1) Searching 0 208).1 ≡ block_1_loses)
    -- of the last four blocks the oldest is bad
    × (run (first 208 one_bad) (rules_with_share 2 4) Searching 0 208
    ≡ (Locked (lock_of 233 1 8 1), and_then A lost b0 c0 d0))
    × (run (first 208 two_bad) (rules_with_share 2 3) Searching 0 208 ≡ (due_1 233, items_lost))
    × (run (first 208 two_bad) (rules_with_share 2 2) Searching 0 208
    ≡ (Locked (lock_of 233 1 2 1), and_then A lost b0 lost d0))
unfolding computed
with_losses = (refl, refl, refl, refl)

-- ---- guesses that differ: over eight zero groups from a search at place 190. A window at a false phase is valid as block 2 once in each
-- group, at places 96, 200, 304 and so on.

abbrev pub eight : Signal
eight = first 832 (zero_groups 8)

pub true_states : ((run eight (rules_of 2 4 10) Searching 0 190).0 ≡ Locked (lock_of 207 4 0 1))
    × ((run eight (rules_of 2 3 10) Searching 0 208).0 ≡ due_1 233)
unfolding computed
true_states = (refl, refl)

-- with reach 4 the search locks on the false phase, since the window four blocks before it is of the same phase
pub locks_at_a_false_phase : run eight (rules_of 2 4 10) Searching 190 11
    ≡ (Locked (lock_of 226 3 0 2), Acquired 200 2 ∷ [])
unfolding computed
locks_at_a_false_phase = refl

-- three bad blocks, then a good one, and so on: the false lock is never lost
pub never_lost : map (λ bits. (run eight (rules_of 2 4 10) Searching 190 bits).0) (89 ∷ 115 ∷ 642 ∷ [])
    ≡ Locked (lock_of 304 2 3 1) ∷ Locked (lock_of 330 3 0 1) ∷ Locked (lock_of 850 3 0 1) ∷ []
unfolding computed
never_lost = refl

-- with reach 3 the search acquires at place 207 as block 4, and is in the true state from place 208 on
pub locks_at_the_true_phase : run eight (rules_of 2 3 10) Searching 190 18
    ≡ (due_1 233, Acquired 207 4 ∷ only_4_at 182 ∷ [])
unfolding computed
locks_at_the_true_phase = refl

-- with reach 3 a lock at the false phase, whose block 1 is due at place 200, is lost at its tenth block, and the next one is
-- acquired seven places on: groups left out
pub lost_at_434 : filter (λ item. not (is_group item)) (run eight (rules_of 2 3 10) (due_1 200) 190 642).1
    ≡ LostLock 434 ∷ Acquired 441 1 ∷ []
unfolding computed
lost_at_434 = refl

-- ---- what is left of a run

abbrev pub left : List Item → State → DecoderOf
left items end = record { items = items; end = end }

pub of_a_range : (decoder_of b default_rules Searching 0 104 ≡ left items_of_whole (due_1 129))
    -- from a state on, only over the places before the range's end
    × (decoder_of b default_rules (Locked (lock_of 77 3 0 2)) 52 104 ≡ left (from_2_at 26 ∷ []) (due_1 129))
    × (decoder_of b default_rules (Locked (lock_of 77 3 0 2)) 52 103 ≡ left [] (Locked (lock_of 103 4 0 2)))
    × (decoder_of b default_rules (Locked (lock_of 77 3 0 2)) 52 52 ≡ left [] (Locked (lock_of 77 3 0 2)))
unfolding computed
of_a_range = (refl, refl, refl, refl)

-- one after the other
pub the_first : GivesNext (left items_of_whole (due_1 129)) (Some (Acquired 51 2)) (left (from_2_at 26 ∷ []) (due_1 129))
the_first = (refl, refl)

pub the_last : GivesNext (left (from_2_at 26 ∷ []) (due_1 129)) (Some (from_2_at 26)) (left [] (due_1 129))
the_last = (refl, refl)

pub none_left : GivesNext (left [] (due_1 129)) None (left [] (due_1 129))
none_left = ((refl, refl), refl)

-- none is given only if none is left
pub not_none : GivesNext (left (from_2_at 26 ∷ []) (due_1 129)) None (left [] (due_1 129)) → ⊥
not_none gives = cc

-- an item is given once
pub not_twice : GivesNext (left (from_2_at 26 ∷ []) (due_1 129)) (Some (from_2_at 26)) (left (from_2_at 26 ∷ []) (due_1 129)) → ⊥
not_twice gives = cc

-- and the run ends as before
pub not_another_end : GivesNext (left (from_2_at 26 ∷ []) (due_1 129)) (Some (from_2_at 26)) (left [] Searching) → ⊥
not_another_end gives = cc

-- items with their recording and their rules
pub the_report : listed b default_rules (report_items b default_rules)
    ≡ record { source = b; rules = default_rules; list = items_of_whole }
unfolding computed
the_report = refl

-- the same items of another recording are others, and by other rules
pub not_of_another : listed b default_rules [] ≡ listed (first 0 []) default_rules [] → ⊥
not_of_another same = false≢true (sym (ap (λ items. length_of items.source == 104) same))

pub not_by_others : listed b default_rules [] ≡ listed b (rules_of 2 4 10) [] → ⊥
not_by_others same = false≢true (sym (ap (λ items. items.rules.reach == 3) same))

-- ---- steps of a decoder: where they lead, and how many windows they may read

-- a search takes one bit; a lock moves past the block that is due, even at the last bit of the range, and else to the
-- range's end
pub next_places : (next_place Searching 51 104 ≡ 52) × (next_place (Locked (lock_of 77 3 0 2)) 52 104 ≡ 78)
    × (next_place (Locked (lock_of 103 4 0 2)) 78 104 ≡ 104) × (next_place (due_1 129) 104 110 ≡ 110)
next_places = (refl, refl, refl, refl)

-- a search reads its own window and a partner's at each distance; a lock reads the blocks of a group, if one
-- is due
pub windows_read : (reads_most (rules_of 2 8 10) Searching 104 ≡ 9)
    × (reads_most (rules_of 2 8 10) (Locked (lock_of 103 4 0 1)) 104 ≡ 4)
    × (reads_most (rules_of 2 8 10) (due_1 104) 104 ≡ 0)
windows_read = (refl, refl, refl)
