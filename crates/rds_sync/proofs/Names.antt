-- The names that proofs share: of std, of the crates below, and of the definitions.
pub use Rattle.std.proofs.Common.{All, Bool, Global, IsTrue, List, None, Option, Some, Vec, [], add-one, add-zero, ap, append-nil, append_assoc, ap₂, arith, bit_and, bit_xor, cond, drop, eqb, false, flat_map, get_or, inl, inr, leb, length, length-append, lit<, ltb, map, min, one-add, pow-add, refl, rules, set, slice_range, subst, suc, sym, take, true, zero, zero-add, ℕ, ⊎_elim, ◌%◌, ◌*◌, ◌++◌, ◌+◌, ◌-◌, ◌/◌, ◌<◌, ◌^◌, ◌↔◌, ◌∙◌, ◌∷◌, ◌≡◌, ◌≢◌, ◌≤◌, ◌⊎◌}
pub use Rattle.std.specs.Prelude.{MatchOption, count_by, count_ones, filter, filter_map, find, if◌then◌else◌, is_some, nat_le, nat_lt, not, slice_get, slice_index, slice_index_or, sum_by, vec_capacity, ⊤, ◌&&◌, ◌==◌, ◌||◌}
pub use Rattle.std.{proofs.Math.Bool.and-false, proofs.Math.Nat.div-add-mod, proofs.Math.Nat.min-eq_left, proofs.Math.Nat.mod-eq_of_lt, proofs.Math.Nat.mod-lt, proofs.Math.Nat.mul-add-mod_self_right, proofs.Math.Nat.mul-le-mul_right, proofs.Math.Nat.mul-suc, proofs.Math.Nat.pow-suc, proofs.Math.Nat.suc-add, proofs.Math.Pow.pow_pos, proofs.Math.Seq.drop-append-add, proofs.Math.Seq.drop-append_seam, proofs.Math.Seq.take-append-add, proofs.Math.Seq.take-append_seam, proofs.Math.Seq.take-length, proofs.lemmas.Bool.cases_Bool, proofs.lemmas.Bool.cases_eq, proofs.lemmas.Bool.cases_lt, proofs.lemmas.Bool.eq-eqb, proofs.lemmas.Bool.eqb-true, proofs.lemmas.Bool.le-leb, proofs.lemmas.Bool.le-ltb, proofs.lemmas.Bool.lt-leb, proofs.lemmas.Bool.lt-ltb, proofs.lemmas.Bool.ne_eqb, proofs.lemmas.Grind.common_steps, proofs.lemmas.Grind.flat_map-append, proofs.lemmas.List.drop-append-le, proofs.lemmas.List.drop-drop, proofs.lemmas.List.get_or-drop, proofs.lemmas.List.get_or-take, proofs.lemmas.List.length-drop, proofs.lemmas.List.length-map, proofs.lemmas.List.length-take, proofs.lemmas.List.take-append-drop, proofs.lemmas.List.take-append-le, proofs.lemmas.List.take_more, proofs.lemmas.List.Elements.All-append, proofs.lemmas.List.Elements.All-cons, proofs.lemmas.List.Elements.All-drop, proofs.lemmas.List.Elements.All-filter, proofs.lemmas.List.Elements.All-head, proofs.lemmas.List.Elements.All-nil, proofs.lemmas.List.Elements.All-tail, proofs.lemmas.List.Elements.filter_passes, proofs.lemmas.List.Sums.AllPass-from_list_all, proofs.lemmas.List.Sums.length-filter, proofs.lemmas.List.Sums.sum_by-append, proofs.lemmas.List.Sums.sum_by-cons, proofs.lemmas.List.Sums.sum_by_push, proofs.lemmas.Nat.and_mask, proofs.lemmas.Nat.mod-mul-add, proofs.lemmas.Nat.mod-pow-add, proofs.lemmas.Nat.shr-shr, proofs.lemmas.Nat.xor_lt, proofs.lemmas.Nat.Bits.bit_at-suc, proofs.lemmas.Nat.Bits.bit_at-zero, proofs.lemmas.Nat.Bits.bit_at_lowest, proofs.lemmas.Nat.Bits.ones_shr, proofs.lemmas.Option.get_or_from_slice_get, proofs.lemmas.Option.slice_get-get_or, proofs.lemmas.Option.slice_get_past, proofs.lemmas.Option.slice_get_within, specs.Int.bit_at, specs.Int.byte_at, specs.Int.bytes_high_first, specs.Int.Bits.xor_zero_r, specs.Int.Count.ones-le, specs.Int.Count.ones_step, specs.Int.Digits.number_from_digits, specs.Iterator.MakesProgress, specs.Iterator.YieldsFirst, specs.Iterator.item_count, specs.List.list_all, specs.List.list_any, specs.List.range_with_len}
unfoldable pub use Rattle.std.specs.Int.Count.{count_leading_zeros, count_trailing_zeros, ones}
pub use Rattle.rds_code.specs.{Bursts.IsBurst, Bursts.burst_length, Bursts.bursts, Cycle.number_after, Encoding.IsBlockOf, Encoding.encoded, Encoding.offset_by_version, Encoding.third_offset, Laws.HasOneBlock, Laws.ListsBursts, Laws.ReadsByRule, Offsets.number, Offsets.offset_of, Offsets.word, Outcomes.outcome_number, Reading.by_only, Reading.corrections, Reading.information, Reading.read_from, Reading.reading, Reading.wanted_offsets, Remainder.rem, declared.offset.Offset.Offset, declared.offset.Offset.TheVariants.A, declared.offset.Offset.TheVariants.A as OA, declared.offset.Offset.TheVariants.B, declared.offset.Offset.TheVariants.B as OB, declared.offset.Offset.TheVariants.C, declared.offset.Offset.TheVariants.Cx, declared.offset.Offset.TheVariants.D, declared.reading.Reading.Reading, declared.reading.Reading.TheVariants.Corrected, declared.reading.Reading.TheVariants.Lost, declared.reading.Reading.TheVariants.Valid, declared.reading.Wanted.Wanted, declared.reading.Wanted.TheVariants.Either, declared.reading.Wanted.TheVariants.OnlyC, declared.reading.Wanted.TheVariants.OnlyCx}
pub use Rattle.rds_stream.specs.{Recording.Signal, Recording.bits_of, Recording.is_touched_by, Recording.length_of, Recording.offset_heard, Recording.packed_bit, Recording.reading_at, Recording.reading_heard, Recording.ungapped, ValidWindows.GivesFirst, ValidWindows.NoneValid, ValidWindows.WindowsLeft}
unfoldable pub use Rattle.rds_stream.specs.Recording.{heard, offset_at, touched, window}
pub use Rattle.rds_sync.specs.Groups.{are_complete, block_at, blocks_at, differ, first_known, group_of, in_conflict, info_of, type_in, version, version_by_bit, version_of_bit, version_of_offset, wanted_beside}
pub use Rattle.rds_sync.specs.Inside.Counts.{HasCountedOn, IsCountStretch, AreLanes, CountOf, acquired_count, added, count_of, counted, group_count, in_lanes, joined, loss_count, IsTally}
pub use Rattle.rds_sync.specs.Inside.Outcomes.{Outcome, bad_over, bits_inverted, corrected, good_at, group_totals, has_info, has_span, lost, missing, outcome_of, valid, was_lost, was_valid, IsLostAtOnce, first_behind, wanted_behind, word_of_two, AreShort, IsShort, blocks_in, nibble, outcome_at, word_of_blocks, IsKeptOver}
pub use Rattle.rds_sync.specs.Sent.{AreCorrectable, AreHeard, AreHeardDamaged, AreWords, DamageTellsTotals, DamagedBitsAreDecoded, DamagedBitsTellTotals, DamagedGroupsAreHeard, DamagedGroupsAreListed, EncodedGroupsAreHeard, EncodedGroupsAreListed, GroupIsHeard, GroupsAreCorrected, IsCorrectable, IsHeardFrom, KeepLock, LockedGroupsAreListed, PackedGroupsAreSent, SentGroup, SentGroupsAreListed, SoundSignalIsDecoded, bad_after_blocks, bits_sent, bits_with_damage, block_sent, four_damages, group_bits, group_sent, items_damaged, items_sent, masks_read, packed_group, packed_groups, totals_damaged}
pub use Rattle.rds_sync.specs.{Acquiring.has_partner, Acquiring.is_in_step, Acquiring.is_numbered, Acquiring.with_partner, Advance.items_in as items_there, Advance.next_place, Convergence.IsConverged, Convergence.IsLastFour, Convergence.IsRival, Convergence.IsSound, Convergence.RunsConverge, Convergence.SoundRangesHaveFours, Convergence.sound_blocks, Counting.IsAtMost, Counting.IsRest, Counting.plus, Decoding.DecoderOf, Decoding.GivesNext, Decoding.ItemsOf, Decoding.listed, Hop.IsHop, Hop.IsPaidHop, Inside.Locks.IsAfter, Inside.Locks.IsKept, Inside.Locks.state_of, Inside.Locks.IsFollowed, Inside.Locks.IsInProgress, Inside.Locks.items_of_due, Inside.Locks.place_by, Inside.Locks.slots_of, Inside.Locks.step_by, Inside.Searches.FindsFirst, Inside.Searches.NoneAcquires, Inside.Spans.AreBehind, Inside.Spans.AreSpans, Inside.Spans.IsAt, Inside.Spans.IsFound, Inside.Spans.IsInFirst, Inside.Spans.IsPast, Inside.Spans.IsSpan, Inside.Spans.IsStart, Inside.Spans.items_in, Inside.Spans.items_of, Inside.WholeGroups.HasGiven, Inside.WholeGroups.HasPushed, Inside.WholeGroups.IsWhole, Inside.WholeGroups.outcomes_at, Lawful.HaveRoom, Lawful.IsBetweenGroups, Lawful.IsLawful, Lawful.IsLawfulLock, Laws.HopsAreStretches, Laws.ItemsMarkChanges, Laws.MasksTellBlocks, Laws.StretchesAreSteps, Loss.IsLawfulBad, Loss.IsLossRule, Loss.are_too_many, Loss.bad_after, Loss.bad_at, Loss.last_blocks, Loss.loses, Report.block_count, Report.end, Report.first_lock, Report.first_of_group, Report.group_closed_by, Report.is_good, Report.items_from, Report.items_of_lock, Report.loses_at, Report.loss_items, Report.read_blocks, Report.report_items, Rules.RuleNumbers, Step.after_bit, Step.completed_group, Step.history_after_block, Step.items_at, Step.items_of_end, Step.lock_after, Step.lock_of, Step.run, Step.step, Stretch.IsStretch, Tally.TallyOf, Tally.gone_on, Tally.tally_at, Totals.bits_corrected, Totals.count_blocks, Totals.is_acquired, Totals.is_complete, Totals.is_corrected_by, Totals.is_group, Totals.is_lost, Totals.is_sync_loss, Totals.is_valid, Totals.sum_blocks, Totals.totals_of, declared.due.Due.Due, declared.due.Due.TheVariants.Closed, declared.due.Due.TheVariants.Inside, declared.due.Due.TheVariants.Lost as LockLost, declared.item.Block.Block, declared.item.Block.TheVariants.Missing, declared.item.Block.TheVariants.Read, declared.item.Group.Group as GroupOf, declared.item.Group.Group as GroupRecord, declared.item.Item.Item, declared.item.Item.TheVariants.Acquired, declared.item.Item.TheVariants.Group, declared.item.Item.TheVariants.Group as GroupItem, declared.item.Item.TheVariants.LostLock, declared.item.Version.Version, declared.item.Version.TheVariants.A as VA, declared.item.Version.TheVariants.B as VB, declared.item.Version.TheVariants.Unknown, declared.lock.Lock.Lock, declared.loss.Loss.Loss, declared.loss.Loss.TheVariants.Run, declared.loss.Loss.TheVariants.Share, declared.span.Span.Span, declared.span.Span.TheVariants.End, declared.span.Span.TheVariants.Run as RunSpan, declared.span.Start.Start, declared.state.State.State, declared.state.State.TheVariants.Locked, declared.state.State.TheVariants.Searching, declared.step.Step.Step, declared.totals.Totals.Totals}
unfoldable pub use Rattle.rds_sync.specs.{Acquiring.acquired, Acquiring.has_number, Groups.group, Sent.binary}
