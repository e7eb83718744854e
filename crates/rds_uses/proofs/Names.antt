-- The names that proofs share: of std, of the crates below, and of the definitions.
pub use Rattle.std.proofs.Common.{Bool, Err, IfOk, IfSome, List, None, Ok, OnOk, Option, Result, Some, [], ap, append_assoc, ap₂, arith, bit_xor, codes, cond, drop, eq-eqb, false, flat_map, get_or, inl, inr, length, map, min, refl, rules, slice_index, subst, suc, sym, take, true, zero, ℕ, ◌*◌, ◌++◌, ◌+◌, ◌-◌, ◌<◌, ◌^◌, ◌∙◌, ◌∷◌, ◌≡◌, ◌≤◌, ◌⊎◌}
pub use Rattle.std.{proofs.lemmas.Bool.cases_lt, proofs.lemmas.Bool.eqb-true, proofs.lemmas.Bool.false≢true, proofs.lemmas.Bool.le-leb, proofs.lemmas.Bool.lt-ltb, proofs.lemmas.List.append-nil, proofs.lemmas.List.get_or_past, proofs.lemmas.List.length-map, proofs.lemmas.List.map-append, proofs.lemmas.List.take-append-drop, proofs.lemmas.List.take_all, proofs.lemmas.List.take_at, proofs.lemmas.List.FromFn.length-map-range_with_len, proofs.lemmas.Nat.xor_lt, proofs.lemmas.Option.IfSome_then, proofs.lemmas.Result.IfErr-weaker, proofs.lemmas.Result.IfOk-weaker, proofs.lemmas.Result.on_ok_weaker, specs.Result.result_ok, specs.Result.result_unwrap_or}
pub use Rattle.rds_abi.specs.{Layout.item_in_c, Stream.AreClosed, Stream.AreCompleted, Stream.AreWritten, Stream.stream_of, Stream.terms_of, Stream.unheard}
pub use Rattle.rds_code.specs.{Offsets.number, Offsets.offset_of, Offsets.word, Remainder.rem, declared.offset.Offset.Offset, declared.offset.Offset.TheVariants.A, declared.offset.Offset.TheVariants.B, declared.offset.Offset.TheVariants.C, declared.offset.Offset.TheVariants.Cx, declared.offset.Offset.TheVariants.D, declared.reading.Wanted.Wanted, declared.reading.Wanted.TheVariants.Either, declared.error.RdsError.RdsError, declared.error.RdsError.TheVariants.BadCutting}
pub use Rattle.rds_live.specs.StreamDecoder.{HasHeard, LiveOf, Terms, complete, report_of}
pub use Rattle.rds_soft.specs.{Laws.HasOneNearest, Laws.SureSymbolsStay, Nearest.IsCorrection, Nearest.IsNearest, Nearest.top, declared.correction.Correction.Correction}
pub use Rattle.rds_stream.specs.Recording.{Signal, length_of, offset_heard, packed_bit, touched, ungapped}
unfoldable pub use Rattle.rds_stream.specs.Recording.{heard, offset_at}
unfoldable pub use Rattle.rds_sync.specs.Acquiring.{acquired}
pub use Rattle.rds_sync.specs.{Convergence.sound_bits, Groups.info_of, Report.report_items, Rules.RuleNumbers, Sent.AreWords, Sent.GroupIsHeard, Sent.bits_sent, Sent.bits_with_damage, Sent.block_sent, Sent.totals_sent, Step.after_bit, Step.items_at, Step.items_of_end, Step.run, Step.step, Totals.totals_of, declared.item.Item.Item, declared.loss.Loss.TheVariants.Run, declared.loss.Loss.TheVariants.Share, declared.state.State.State, declared.state.State.TheVariants.Searching}
pub use Rattle.rds_tool.specs.{Following.rows_so_far, Input.and_then, Laws.ListsEndWithTotals, Laws.groups_in, Laws.sent_listing, Laws.stream_input, Laws.whole_input, Outcome.Writes, Outcome.WritesPrefix, Outcome.list_text, Outcome.result_of_job, Outcome.text_of_task, Plans.PlanOf, Plans.crew_of, Plans.plan_of, declared.job.Input.Input, declared.job.Job.Job, declared.job.Settings.Settings}
pub use Rattle.rds_uses.specs.Received.{four_words, report_sent}
