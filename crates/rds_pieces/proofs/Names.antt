-- The names that proofs share: of std, of the crates below, and of the definitions.
pub use Rattle.std.proofs.Common.{Bool, IfOk, List, None, Option, Some, [], ap, append-nil, append_assoc, ap₂, arith, cond, drop, false, filter, get_or, inl, inr, length, length-append, lit≤, map, nat_lt, refl, rules, slice_index, subst, suc, sym, true, zero, ℕ, ◌*◌, ◌++◌, ◌+◌, ◌-◌, ◌<◌, ◌^◌, ◌∙◌, ◌∷◌, ◌≡◌, ◌≢◌, ◌≤◌, ◌⊎◌}
pub use Rattle.std.{proofs.lemmas.Bool.cases_Bool, proofs.lemmas.Bool.cases_eq, proofs.lemmas.Bool.cases_lt, proofs.lemmas.Bool.le-ltb, proofs.lemmas.Bool.lt-ltb, proofs.lemmas.Grind.common_steps, proofs.lemmas.Grind.div_ceil_times, proofs.lemmas.List.drop_all, proofs.lemmas.List.drop_more, proofs.lemmas.List.get_or_append_left, proofs.lemmas.List.get_or_push, proofs.lemmas.List.length_push, proofs.lemmas.List.nil_from_length, proofs.lemmas.List.FromFn.get_or-map-range_with_len, proofs.lemmas.List.FromFn.length-map-range_with_len, proofs.lemmas.List.FromFn.map-range_with_len_more, proofs.lemmas.Nat.mul-le, proofs.lemmas.Nat.ones_le_self, specs.Int.div_ceil, specs.List.range_with_len, specs.Prelude.sum_by, specs.Prelude.if◌then◌else◌, specs.Prelude.◌==◌, proofs.lemmas.List.Prefix.front_rest}
pub use Rattle.rds_stream.specs.{Recording.Signal, Recording.heard, Recording.length_of, Recording.reading_at, Recording.reading_heard, Tape.TapeState}
pub use Rattle.rds_sync.proofs.RunLemmas.{items-searching, items-acquiring, items-waiting, items-keeping, items-losing, step-acquiring, step-searching, step-waiting, step-keeping, step-losing, run_state-append, run-append, run-one}
pub use Rattle.rds_sync.specs.{Step.completed_group, Step.history_after_block, Step.items_at, Step.items_of_end, Step.lock_of, Step.run, Step.step, Acquiring.acquired, Advance.items_in, Counting.FitTogether, Counting.IsAtMost, Counting.IsRest, Counting.TotalsJoin, Counting.plus, Decoding.ItemsOf, Decoding.listed, Groups.are_complete, Groups.block_at, Groups.wanted_beside, Hop.IsHop, Hop.mark, Lawful.IsBetweenGroups, Lawful.IsLawful, Lawful.IsLawfulLock, Loss.IsLossRule, Loss.are_too_many, Ranges.IsInRange, Report.report_items, Rules.RuleNumbers, Tally.TallyOf, Tally.gone_on, Tally.tally_at, Totals.bits_corrected, Totals.is_corrected_by, Totals.is_lost, Totals.is_valid, Totals.totals_of, declared.item.Item.Item, declared.item.Item.TheVariants.Acquired, declared.item.Item.TheVariants.Group as GroupItem, declared.item.Item.TheVariants.LostLock, declared.lock.Lock.Lock, declared.state.State.State, declared.state.State.TheVariants.Locked, declared.state.State.TheVariants.Searching, declared.totals.Totals.Totals, declared.item.Block.Block, declared.item.Block.TheVariants.Read, declared.item.Group.Group, Convergence.sound_bits, Convergence.SoundRangesHaveFours, Convergence.RunsConverge, declared.step.Step.Step, Stretch.IsStretch}
unfoldable pub use Rattle.rds_sync.specs.Groups.{group}
pub use Rattle.rds_pieces.specs.{Cutting.IsCutting, Cutting.even_places, Cutting.every, Cutting.pieces_of, Guess.guess, Inside.Beside.IsFirst, Inside.Beside.IsStep, Inside.Beside.Meet, Inside.Beside.come_to, Inside.MarkInside.mark_at, Inside.MarkInside.mark_where, Inside.MarkInside.marks_on, Inside.RunInside.IsKept, Inside.RunLaws.RunLaws, Meeting.IsMeeting, Meeting.MeetAt, Meeting.MeetFirstAt, Meeting.distance, RunOf.FollowEachOther, RunOf.RunOf, RunOf.end_of, RunOf.run_at, RunOf.run_over, Seams.IsSumOfReads, Seams.seam_reads, Soon.IsSoonMet, Soon.MeetSoon, declared.mark.Mark.Mark, Marks.mark_after_bits, Marks.gave_item, Marks.marks_of, WorkOf.WorkOf}
pub use Rattle.rds_code.specs.{declared.reading.Wanted.Wanted, declared.reading.Wanted.TheVariants.Either, declared.reading.Reading.Reading, declared.reading.Reading.TheVariants.Valid, declared.reading.Reading.TheVariants.Corrected, declared.reading.Reading.TheVariants.Lost, Laws.ReadsByRule, Reading.reading, Reading.IsReading}
