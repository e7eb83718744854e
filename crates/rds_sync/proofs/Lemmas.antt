-- The names that the answers of functions share, and the lemmas by which a body is proved that names them.
pub use Rattle.rds_sync.proofs.Names.{Acquired, All, All-append, All-cons, All-head, All-nil, All-tail, AreSpans, Block, Bool, Closed, CountOf, Due, Either, End, FindsFirst, GivesFirst, GivesNext, Global, Group, HasCountedOn, HasGiven, HasPushed, Inside, IsCountStretch, IsFollowed, IsKeptOver, IsLawful, IsLawfulBad, IsLawfulLock, IsLostAtOnce, IsSpan, IsStart, IsStretch, Item, ItemsOf, List, Lock, LockLost, Locked, Loss, None, NoneAcquires, NoneValid, Offset, Option, Outcome, Read, Reading, RuleNumbers, RunSpan, Searching, Signal, Some, Span, Start, State, Step, TallyOf, Totals, Vec, WindowsLeft, [], acquired, acquired_count, added, ap, append-nil, append_assoc, ap₂, are_too_many, arith, bad_after, bad_over, block_at, blocks_at, blocks_in, burst_length, cases_lt, common_steps, completed_group, corrected, count_of, count_ones, drop, false, first_behind, get_or, gone_on, good_at, group, group_count, group_of, has_info, has_number, has_partner, heard, if◌then◌else◌, inl, inr, is_valid, items_at, items_in, items_of, items_of_due, items_of_end, items_there, joined, length, length-append, length_of, list_all, list_any, listed, lock_after, lock_of, lt-leb, map, number, offset_at, offset_heard, outcome_at, outcome_of, place_by, plus, range_with_len, reading_heard, refl, rules, run, set, slots_of, state_of, step, step_by, subst, sym, take, tally_at, totals_of, true, wanted_behind, wanted_beside, ℕ, ◌%◌, ◌*◌, ◌++◌, ◌+◌, ◌-◌, ◌/◌, ◌<◌, ◌^◌, ◌∙◌, ◌∷◌, ◌≡◌, ◌≢◌, ◌≤◌}
pub use Rattle.rds_sync.proofs.RunLemmas.{lawful-lock, lawful_step, HasFound, found-first, lawful-acquired, quiet-acquired, run-acquired, acquired-none, acquired-number, items-acquiring, lawful-due, lawful-lock_after, lawful-waiting, run-due, run-early, run-further, run-quiet, run-unfound, run_places, run_searching}
pub use Rattle.rds_sync.proofs.SpanLemmas.{alike, behind-past, counted_next, found_at, items_after, items_in-append, items_in-push, over, part_taken, past_first, range_first, range_past, span_taken, spans-behind, spans-push, spans_after, with_more}
pub use Rattle.rds_sync.proofs.{DecoderLemmas.gives-first, DecoderLemmas.gives-second, DecoderLemmas.goes-on, DecoderLemmas.groups-end, DecoderLemmas.groups-items, DecoderLemmas.left_of, DecoderLemmas.none_ready, DecoderLemmas.two_slots, DueLemmas.followed-due, DueLemmas.given-due, DueLemmas.step-due, GroupBlocks.blocks_at-next, GroupBlocks.group-alone, GroupBlocks.heard-blocks, GroupBlocks.word-of-outcomes, HeardLemmas.acquired-early, HeardLemmas.acquired-offset, HeardLemmas.any-later, HeardLemmas.good-reading, HeardLemmas.has_partner-early, HeardLemmas.last-alone, HeardLemmas.off-early, HeardLemmas.off-heard, HeardLemmas.outcomes, HopLemmas.gone-again, HopLemmas.gone-none, HopLemmas.hop-is, HopLemmas.tally-cut, HopLemmas.tally-gone, HopLemmas.view-gone, RunIsReport.report-run, RunIsReport.run_items_few, RunIsReport.some_given, TotalsLemmas.IsAtMost-more, TotalsLemmas.added-further, TotalsLemmas.added-nothing, TotalsLemmas.are-more, TotalsLemmas.counted-group, TotalsLemmas.four_blocks, TotalsLemmas.group-added, TotalsLemmas.lost-added, TotalsLemmas.totals_of_append, WholeGroupLemmas.clean_kept, WholeGroupLemmas.good-in, WholeGroupLemmas.kept-over, WholeGroupLemmas.one_more, WholeGroupLemmas.pushed-is, WholeGroupLemmas.whole-is, WholeGroupLemmas.whole_group, WholeGroupLemmas.whole_quiet, WordLemmas.bad-there, WordLemmas.burst-short, WordLemmas.outcomes-are, WordLemmas.short-counts, WordLemmas.short-run, WordLemmas.two-are, WordLemmas.word-of-four, WordLemmas.word-tells}

pub ruleset nibble = (common_steps, outcome_of, corrected, burst_length, count_ones, rules, burst-short)

pub ruleset tally_report = (common_steps, length-append, run, plus, totals_of, IsAtMost-more)

pub ruleset push_past = (common_steps, behind-past)

pub ruleset item_got = (common_steps, range_first, range_past)

pub ruleset part_filled = (common_steps, items_in, rules, part_taken, take)

pub ruleset bad_after_four = (common_steps, clean_kept)

pub ruleset follow = (common_steps, step-due, given-due, followed-due)

pub ruleset is_partner_in = (common_steps, lt-leb, has_partner-early)

pub ruleset partners = (common_steps, any-later, has_partner)

pub ruleset acquired_items = (common_steps, completed_group)

pub ruleset push_groups = (common_steps, rules, groups-items, groups-end, left_of)

pub ruleset offset_there = (common_steps, off-early, off-heard, offset_heard)

pub ruleset blocks_heard = (common_steps, heard-blocks)

pub ruleset group_so_far = (common_steps, group_of)

pub ruleset advance = (common_steps, append-nil, items_at, run, step, lawful-lock, lawful-waiting, run-due, run-early)

pub ruleset tally_run = (common_steps, gone-none, gone-again, run)

pub ruleset acquiring = (common_steps, acquired-early, acquired-none, off-heard)

pub ruleset span_pushed = (common_steps, items_in, items_of, items_in-push, items_in-append, spans-push, spans-behind, alike, over)

pub ruleset sought = (common_steps, quiet-acquired, run_searching, run-quiet, run-unfound, added-nothing)
