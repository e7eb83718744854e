-- The names that proofs share: of std, of the crates below, and of the definitions.
pub use Rattle.std.proofs.Common.{Bool, Err, List, None, Ok, Option, Result, Some, [], ap, append_assoc, ap₂, arith, drop, eqb, false, get_or, inl, inr, leb, leb-true, length, ltb, map, min, refl, rules, set, subst, suc, sym, take, true, zero, ℕ, ◌%◌, ◌*◌, ◌++◌, ◌+◌, ◌-◌, ◌/◌, ◌<◌, ◌^◌, ◌∙◌, ◌∷◌, ◌≡◌, ◌≤◌, ◌⊎◌, ◌≢◌, eqb-true}
pub use Rattle.std.proofs.lemmas.List.{append-nil, drop-append-le, drop-drop, drop-set-lt, drop_at, drop_more, get_or-drop, get_or_append_left, length-append, length-drop, length-map, length-set, length-take-le, map-append, take-append-drop, take-append-le, take_all, take_rest, with_items_is, nil_from_length}
pub use Rattle.std.{proofs.lemmas.Bool.cases_eq, proofs.lemmas.Bool.cases_lt, proofs.lemmas.Bool.false≢true, proofs.lemmas.Bool.le-leb, proofs.lemmas.Bool.le-ltb, proofs.lemmas.Bool.lt-leb, proofs.lemmas.Bool.lt-ltb, proofs.lemmas.Bool.ltb-false, proofs.lemmas.Bool.ltb-true, proofs.lemmas.Bool.ne_eqb, proofs.lemmas.Bool.eq-eqb, proofs.lemmas.Bool.cases_Bool, specs.List.All, specs.List.AllAdjacentBelow, specs.List.cons_option, specs.List.filter_map, specs.List.flat_map, specs.List.list_any, specs.List.range_with_len, specs.List.slice_range, specs.Prelude.IfOk, specs.Prelude.nat_le, specs.Prelude.nat_lt, specs.Prelude.slice_index, specs.Prelude.slice_index_or, specs.Prelude.vec_capacity, specs.Prelude.⊤, specs.Prelude.◌&&◌, specs.Prelude.◌||◌, proofs.Math.ListN.get_or-append, proofs.Math.Seq.drop-append_seam, proofs.lemmas.Grind.flat_map-append, proofs.lemmas.Grind.take-set_at, proofs.lemmas.Grind.take_at_read, proofs.lemmas.Grind.common_steps, proofs.lemmas.List.Elements.All-append, proofs.lemmas.List.Elements.All-cons, proofs.lemmas.List.Elements.All-head, proofs.lemmas.List.Elements.All-nil, proofs.lemmas.List.Elements.All-tail, proofs.lemmas.List.FromFn.length-map-range_with_len, proofs.lemmas.List.FromFn.map-range_with_len_more, proofs.lemmas.List.FromFn.take-map-range_with_len, proofs.lemmas.List.Sorted.IsNonDecreasingBy-from_all_adjacent, proofs.lemmas.List.Sorted.IsPartitionPoint-from_clause, proofs.lemmas.List.Sorted.IsPartitionedBy-leb, proofs.lemmas.List.Sorted.IsPartitionedBy-ltb, specs.Int.bit_at, specs.Int.Digits.number_from_digits, specs.List.Sorted.IsNonDecreasingBy, specs.List.Sorted.IsPartitionPoint, specs.Vec.with_items, proofs.lemmas.Bool.Decides.nat_tests}
pub use Rattle.rds_stream.specs.{Recording.AreGaps, Recording.Signal, Recording.bits_of, Recording.is_touched_by, Recording.length_of, Recording.packed_bit, Tape.TapeState}
unfoldable pub use Rattle.rds_stream.specs.Recording.{heard, touched, window}
pub use Rattle.rds_sync.{proofs.RunLemmas.items-acquiring, proofs.RunLemmas.items-keeping, proofs.RunLemmas.items-losing, proofs.RunLemmas.items-searching, proofs.RunLemmas.items-waiting, specs.Advance.group_item, specs.Counting.IsAtMost, specs.Counting.TotalsJoin, specs.Counting.plus, specs.Decoding.DecoderOf, specs.Lawful.IsLawful, specs.Laws.RunsAreLawful, specs.Laws.RunsAreReports, specs.Laws.RunsJoin, specs.Loss.are_too_many, specs.Ranges.IsInRange, specs.Rules.RuleNumbers, specs.Step.completed_group, specs.Step.history_after_block, specs.Step.items_at, specs.Step.items_of_end, specs.Step.run, specs.Step.step, specs.Step.after_bit, specs.Step.lock_of, specs.Step.lock_after, specs.Totals.totals_of, specs.declared.item.Item.Item, specs.declared.item.Item.TheVariants.Acquired, specs.declared.item.Item.TheVariants.Group, specs.declared.item.Item.TheVariants.LostLock, specs.declared.lock.Lock.Lock, specs.declared.state.State.State, specs.declared.state.State.TheVariants.Locked, specs.declared.state.State.TheVariants.Searching, specs.declared.totals.Totals.Totals, specs.declared.item.Group.Group as GroupRecord}
unfoldable pub use Rattle.rds_sync.specs.{Acquiring.acquired, Groups.group}
pub use Rattle.rds_live.specs.Next.{EndsAreReports, IsStart, IsWithin, NextIsHeard, PiecesJoin, before_tail, completed, group_next, guessed, items_next, live_next, moved_back, part_with, run_next}
pub use Rattle.rds_live.specs.StreamDecoder.{HasHeard, IsStreamDecoder, LiveOf, Terms, complete, last_bytes, live_of, most_counted, most_kept, report_at, report_of, run_of, signal_at, signal_of}
pub use Rattle.rds_live.specs.{Moving.EndsMove, Moving.IsPartHeard, Moving.RunsMove, Moving.most_behind, Moving.moved_item, Moving.moved_items, Moving.moved_state, Gaps.gaps_within, Gaps.part_of_gap, Listing.ListerOf, Listing.lister_next, Listing.lister_of, Places.is_due_below, Places.place_of, Room.AreSpareFrom, Room.RoomOf, Room.filled_up, Room.slots_of, Room.spare, declared.kept.Start.Start}
pub use Rattle.rds_code.specs.declared.{offset.Offset.Offset, reading.Wanted.Wanted}
