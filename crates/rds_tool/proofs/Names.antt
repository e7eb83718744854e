-- The names that proofs share: of std, of the crates below, and of the definitions.
pub use Rattle.std.proofs.Common.{Bool, Bor, Err, IfErr, IfOk, IfSome, IsErrOf, IsOk, List, None, Ok, OnErr, OnOk, Option, Result, Some, [], ap, append_assoc, ap₂, arith, codes, cond, decimal, drop, eqb, false, find, get_or, if◌then◌else◌, inl, inr, is_some, leb, length, map, min, mul_assoc, nat_le, nat_lt, not, ok_or, option_and_then, option_map, refl, rules, set, slice_index, slice_index_or, subst, suc, sym, take, tests, true, vec_capacity, vec_len, zero, ℕ, ◌%◌, ◌&&◌, ◌*◌, ◌++◌, ◌+◌, ◌-◌, ◌/◌, ◌<◌, ◌==◌, ◌^◌, ◌||◌, ◌↔◌, ◌∙◌, ◌∷◌, ◌≡◌, ◌≢◌, ◌≤◌, ◌⊎◌}
pub use Rattle.std.proofs.lemmas.List.{append-nil, drop-map, drop-set-lt, drop_all, drop_more, get_or-append_right, get_or_append_left, get_or_push, length-append, length-drop, length-map, length-set, length-take, length_push, map-append, nil_from_length, take-append-drop, take-append-le, take-map, take_all, take_more, take_more_set, take_rest}
pub use Rattle.std.specs.List.{All, AllAdjacentBelow, AllByRecursion, concat, cons_option, filter, filter_map, flat_map, join_with_byte, list_all, list_any, onto_first, range_with_len, slice_split}
pub use Rattle.std.{proofs.KnownBytes.Appends-nil, proofs.KnownBytes.Appends-trans, proofs.KnownBytes.Consumes-kept, proofs.KnownBytes.Consumes-nil, proofs.KnownBytes.Consumes-trans, proofs.KnownBytes.Consumes-whole, proofs.Math.ListN.get_or-append, proofs.Math.Seq.drop-cons, proofs.Math.Seq.take-append-add, proofs.lemmas.Bool.cases_lt, proofs.lemmas.Bool.eq-eqb, proofs.lemmas.Bool.eqb-false, proofs.lemmas.Bool.eqb-true, proofs.lemmas.Bool.false≢true, proofs.lemmas.Bool.le-leb, proofs.lemmas.Bool.le-ltb, proofs.lemmas.Bool.leb-true, proofs.lemmas.Bool.lt-ltb, proofs.lemmas.Bool.ltb-true, proofs.lemmas.Bool.ne_eqb, proofs.lemmas.Bool.or_parts, proofs.lemmas.Bool.Decides.nat_tests, proofs.lemmas.Fmt.decimal_digit, proofs.lemmas.Fmt.decimal_is_IsNumeral, proofs.lemmas.Fmt.decimal_step, proofs.lemmas.Grind.common_steps, proofs.lemmas.Grind.flat_map-append, proofs.lemmas.Grind.take-set_at, proofs.lemmas.List.Elements.All-cons, proofs.lemmas.List.Elements.All-drop, proofs.lemmas.List.Elements.All-head, proofs.lemmas.List.Elements.All-nil, proofs.lemmas.List.Elements.All-tail, proofs.lemmas.List.Elements.All-take, proofs.lemmas.List.Elements.filter-append, proofs.lemmas.List.Folds.concat-append, proofs.lemmas.List.Folds.flat_map-map, proofs.lemmas.List.Folds.list_any-append, proofs.lemmas.List.FromFn.length-map-range_with_len, proofs.lemmas.List.FromFn.map-range_with_len_more, proofs.lemmas.List.FromFn.take-map-range_with_len, proofs.lemmas.Result.IfErr-weaker, proofs.lemmas.Result.IfOk-weaker, proofs.lemmas.Str.Parse.IsNumeralModel, proofs.lemmas.Str.Parse.digit_from_value, proofs.lemmas.Str.Parse.digits_value_short, proofs.lemmas.Str.Parse.numerals_by_value, proofs.lemmas.Str.Parse.parse_digits, proofs.lemmas.Str.Parse.tells_all_ascii_digits, specs.Char.digit_value, specs.Char.is_ascii_digit, specs.Global.Vec, specs.Int.bit_at, specs.Int.byte_at, specs.Int.bytes_high_first, specs.Io.KnownBytes.Appends, specs.Io.KnownBytes.Consumes, specs.Io.KnownBytes.IsAtEnd, specs.Io.KnownBytes.Keeps, specs.Result.IsErr, specs.Result.IsErrAnd, specs.Result.OkIff, specs.Result.result_ok, specs.Result.result_unwrap_or, specs.Str.all_ascii_digits, specs.Str.bytes_eq, specs.Str.Parse.AllDigits, specs.Str.Parse.ExplainsUnsignedError, specs.Str.Parse.HasUnsignedDigitsIfOk, specs.Str.Parse.ParsesUnsigned, specs.Str.Parse.digits_value, specs.Str.Parse.without_leading_plus}
pub use Rattle.clap.specs.Words.{AddsArg, AddsSubcommand, App, FailsBy, HasKind, Kinds, ReadsOne, Row, Text, TriesOne, fault_of, first_of, first_value, found_of, is_simple, is_simple_and_free, kind_of, matched_of, one_of, one_text, rows_of, rule_of, subcommand_of}
pub use Rattle.clap.specs.declared.{builder.command.Command.Command, parser.matches.ValueSource.ValueSource}
pub use Rattle.csv.specs.Writing.{default_writer, field_text, needs_byte, row_body, row_text}
unfoldable pub use Rattle.csv.specs.Writing.{fields_text}
pub use Rattle.hex.specs.{Hex.IsBytes, Hex.decode_of, Hex.decode_sized, Hex.digit_or_error, Hex.encode_lower, Hex.hex_digit_value, Hex.lower_digits, Hex.upper_digits, Hex.◌>>=◌, declared.error.FromHexError.FromHexError}
unfoldable pub use Rattle.hex.specs.Hex.{decode_pairs, encode_with}
pub use Rattle.rds_code.specs.{declared.offset.Offset.Offset, declared.error.RdsError.TheVariants.BadCutting, declared.error.RdsError.TheVariants.BadGaps, declared.error.RdsError.TheVariants.BitsPastBytes, declared.error.RdsError.TheVariants.BurstRange, declared.error.RdsError.TheVariants.GroupText, declared.error.RdsError.TheVariants.HexText, declared.error.RdsError.TheVariants.NoWorker, declared.error.RdsError.TheVariants.OutOfMemory, declared.error.RdsError.TheVariants.ReachRange, declared.error.RdsError.TheVariants.Read, declared.error.RdsError.TheVariants.TooLong, declared.error.RdsError.TheVariants.TooManyTurns, declared.error.RdsError.TheVariants.Write, Refusals.IsMemoryOrErrOf, declared.error.RdsError.RdsError}
pub use Rattle.rds_stream.specs.{Recording.AreGaps, Recording.Signal, Recording.bits_of, Recording.is_touched_by, Recording.length_of, Recording.offset_at, Recording.packed_bit, Recording.ungapped, Recording.valid_at, ValidWindows.GivesFirst, ValidWindows.NoneValid, ValidWindows.WindowsLeft}
unfoldable pub use Rattle.rds_stream.specs.Recording.{heard, touched, window}
pub use Rattle.rds_sync.specs.{Decoding.DecoderOf, Decoding.ItemsOf, Decoding.decoder_of, Lawful.AreInOrder as NumbersInOrder, Lawful.IsLawful, Lawful.IsLawfulLock, Laws.AcquisitionsAreLate, Laws.RunsAreLawful, Laws.RunsAreReports, Laws.RunsJoin, Laws.StepsAreLawful, Loss.IsLossRule, Loss.are_too_many, Report.report_items, Rules.RuleNumbers, Step.completed_group, Step.history_after_block, Step.items_at, Step.items_of_end, Step.lock_after, Step.run, Step.step, Totals.totals_of, declared.item.Item.Item, declared.item.Item.TheVariants.Acquired, declared.item.Item.TheVariants.Group, declared.item.Item.TheVariants.LostLock, declared.lock.Lock.Lock, declared.loss.Loss.Loss, declared.state.State.State, declared.state.State.TheVariants.Locked, declared.state.State.TheVariants.Searching, declared.totals.Totals.Totals, declared.totals.Totals.Totals as TotalsOf}
pub use Rattle.rds_live.specs.{Moving.EndsMove, Moving.IsPartHeard, Moving.RunsMove, Moving.moved_item, Moving.moved_items, Moving.moved_state, StreamDecoder.HasHeard, StreamDecoder.LiveOf, StreamDecoder.Terms, StreamDecoder.complete, StreamDecoder.live_of, StreamDecoder.report_at, StreamDecoder.report_of, StreamDecoder.run_of, StreamDecoder.signal_at, StreamDecoder.signal_of}
pub use Rattle.rds_soft.specs.{ReadAgain.item_again, ReadAgain.symbols_of, SoftStream.SoftHeard, SoftStream.SoftTerms, SoftStream.group_item, SoftStream.read_again, Symbols.hard_bit, declared.soft_item.SoftItem.SoftItem}
pub use Rattle.rds_pieces.specs.Cutting.{IsCutting}
pub use Rattle.rds_rows.specs.{Sheets.left_of, Sheets.size_of, Sheets.text_of, Writes.AppendsPrefix, declared.sheet.Sheet.Sheet}
pub use Rattle.rds_tool.specs.CommandLine.{IsFault, Makes, MayAnswer, ReadsAs, gaps_asked_for, gaps_spelled, if_given, is_given, is_of_words, is_true, job_in, number_of, number_up_to, rds_app, report_job_of, request_of, stream_of, with_progress}
pub use Rattle.rds_tool.specs.Following.{AreAsked, BreaksOff, Follows, HasAll, IsFlushedAfter, IsFollowed, IsHeardOut, IsLong, IsShort as IsShortOf, MayBreakOff, Stream, bit_stream, claim_or, counted, listed, most_read, rows_so_far, stream_text}
pub use Rattle.rds_tool.specs.Listing.{block_text, dash, hex_digits, item_fields, item_row, kind_text, named_totals, report_text, row, scan_text, total_row, totals_text, version_text, window_row, word_text}
pub use Rattle.rds_tool.specs.{Cuts.are_inner, Cuts.cuts_any, Cuts.cuts_bits, Cuts.has_pieces, Cuts.places_at, Cuts.rise_between, GapText.and_gaps, GapText.each_gap, GapText.gap_of, GapText.gaps_of, GapText.is_place, GapText.place_of, GroupText.encoded_text, GroupText.group_text, GroupText.is_space, GroupText.line_text, GroupText.lines_of, GroupText.lines_text, GroupText.words_of, GroupText.words_or_refusal, History.Gave, Input.and_then, Input.bytes_of, Input.claimed, Input.decoded, Input.first_bits, Input.may_be_gaps, Input.or_hex_text, Input.recording_of, InputOf.InputOf, Inside.Commands.app_of_row, Inside.Commands.bare_app, Inside.Commands.rule_of_row, Inside.Commands.with_command, Inside.Commands.with_each, Inside.Commands.with_option, Inside.Counters.CounterOf, Inside.Counters.InputCounterOf, Inside.Counters.IsCounter, Inside.Counters.IsTextOf, Inside.Counters.claimed_by, Inside.Counters.whole, Inside.RowWriter.IsPlain, Inside.RowWriter.IsShort, Inside.Rows.row_where, Inside.Rows.rows_of_places, Inside.Streams.Breaks, Inside.Streams.IsHeard, Inside.Streams.IsNear, Inside.Streams.IsPlaceOf, Inside.Streams.IsShortEnough, Inside.Streams.bits_left, Laws.EncodedGroupsAreListed, Laws.EncodedGroupsAreTaken, Laws.ListsEndWithTotals, Laws.StreamsAreListed, Laws.groups_of_lines, Laws.stream_input, Laws.whole_input, Outcome.IsOutside, Outcome.Writes, Outcome.WritesPrefix, Outcome.cut_recording, Outcome.list_text, Outcome.result_of_job, Outcome.text_of_task, Outcome.totals_list, Plans.PlanOf, Plans.crew_of, Plans.cut_by, Plans.plan_of, Plans.workers_of, Rules.loss_of, Rules.rules_of, Soft.claimed_of, Soft.named_flips, Soft.recording_of_symbols, Soft.soft_block_text, Soft.soft_report_text, Soft.soft_row, Soft.soft_text, Soft.soft_totals_text, SoftFollowing.most_symbols, SoftFollowing.soft_listed, SoftFollowing.soft_rows_so_far, SoftFollowing.soft_stream_text, SoftFollowing.symbol_stream, Tasks.task_of, WellFormed.AreInOrder, WellFormed.DifferInGaps, WellFormed.GapsHideBits, WellFormed.HasRows, WellFormed.ListsAreWellFormed, WellFormed.Next, WellFormed.RowsBeginLists, WellFormed.at_first, WellFormed.bits_of_item, WellFormed.is_in_gap, WellFormed.was_read, declared.job.Asked.Asked, declared.job.Cuts.Cuts, declared.job.Input.Input, declared.job.Job.Job, declared.job.Job.TheVariants.Encode, declared.job.Job.TheVariants.Scan, declared.job.Settings.Settings, declared.task.Task.Task}
unfoldable pub use Rattle.rds_tool.specs.Input.{is_blank}
