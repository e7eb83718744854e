-- The names that proofs share: of std, of the crates below, and of the definitions.
pub use Rattle.std.proofs.Common.{Bool, List, None, Option, Some, [], ap, append_assoc, ap₂, arith, drop, false, get_or, if◌then◌else◌, inl, inr, leb, leb-true, length, length-drop, ltb, map, max, min, refl, replicate, rules, set, subst, sym, take, tests, true, true≢false, vec_capacity, ℕ, ⊎_elim, ◌%◌, ◌*◌, ◌++◌, ◌+◌, ◌-◌, ◌/◌, ◌<◌, ◌^◌, ◌∙◌, ◌∷◌, ◌≡◌, ◌≤◌, ◌⊎◌, Fits}
pub use Rattle.std.proofs.lemmas.List.{append-nil, drop-drop, drop-replicate, drop-set-lt, drop-take, drop_all, get_or-drop, get_or-map, get_or-take, length-append, length-map, length-set, length-take, map-append, take-append-drop, take-take, take_all, drop-append-le, ext_get_or, get_or-append_right, get_or_append_left, length-replicate, take-append-le, take_rest}
pub use Rattle.std.{proofs.lemmas.Bool.MatchBool-at_false, proofs.lemmas.Bool.MatchBool-at_true, proofs.lemmas.Bool.cases_Bool, proofs.lemmas.Bool.cases_lt, proofs.lemmas.Bool.false≢true, proofs.lemmas.Bool.le-leb, proofs.lemmas.Bool.le-ltb, proofs.lemmas.Bool.ltb-false, proofs.lemmas.Bool.lt-ltb, proofs.lemmas.Grind.common_steps, proofs.lemmas.Grind.take-set_at, proofs.lemmas.Grind.take_at_read, proofs.lemmas.List.Sorted.IsNonDecreasingBy-from_all_adjacent, proofs.lemmas.List.Sorted.IsPartitionPoint-from_clause, proofs.lemmas.List.Sorted.IsPartitionedBy-leb, proofs.lemmas.List.Sorted.IsPartitionedBy-ltb, proofs.lemmas.List.Sorted.answers_always, proofs.lemmas.Result.IfErr-weaker, proofs.lemmas.Result.IfOk-weaker, proofs.lemmas.Result.err_from_is_err_and, proofs.lemmas.Result.on_ok_weaker, specs.List.All, specs.List.AllAdjacentBelow, specs.List.filter_map, specs.List.slice_range, specs.List.list_any, specs.List.range_with_len, specs.Prelude.slice_set, specs.Prelude.ℤ, specs.Prelude.bit_xor, specs.Prelude.nat_lt, specs.Prelude.not, specs.Prelude.pos, specs.Prelude.◌&&◌, proofs.Math.Seq.drop-append_seam, proofs.Math.Seq.take-append_seam, proofs.Math.Seq.drop-append-add, proofs.Math.Seq.take-append-add, specs.Int.Digits.number_from_digits, proofs.lemmas.List.FromFn.get_or-map-range_with_len, proofs.lemmas.List.FromFn.length-map-range_with_len, specs.Int.bit_at, specs.Int.cast_signed, specs.Int.w8}
pub use Rattle.rds_stream.specs.Recording.{AreGaps, Signal, bits_of, length_of, packed_bit, is_touched_by, touched}
pub use Rattle.rds_sync.specs.{Advance.group_item, Lawful.AreInOrder, Lawful.IsLawful, Laws.RunsGiveFewItems, Laws.AcquisitionsAreLate, Laws.StepsAreLawful, Ranges.IsInRange, Rules.RuleNumbers, Step.items_of_end, Step.run, Totals.totals_of, declared.item.Item.Item, declared.state.State.State, declared.state.State.TheVariants.Locked, declared.item.Item.TheVariants.Acquired, declared.item.Item.TheVariants.Group, declared.item.Item.TheVariants.LostLock}
pub use Rattle.rds_live.{proofs.GapParts.found-of-part, proofs.GapParts.part-touched, proofs.ItemPlaces.run-early, proofs.Parts.IsPartOf, proofs.Parts.bits-begin, proofs.Parts.bits-heard, proofs.Parts.length-at, proofs.Parts.length-signal, specs.Gaps.gaps_within, specs.Gaps.part_of_gap, specs.Moving.EndsMove, specs.Moving.IsPartHeard, specs.Moving.RunsMove, specs.Moving.most_behind, specs.Moving.moved_item, specs.Moving.moved_items, specs.Moving.moved_state, specs.Next.NextIsHeard, specs.Next.PiecesJoin, specs.Next.before_tail, specs.Next.completed, specs.Next.live_next, specs.Next.moved_back, specs.Next.part_with, specs.Next.run_next, specs.Places.place_of, specs.StreamDecoder.HasHeard, specs.StreamDecoder.IsStreamDecoder, specs.StreamDecoder.LiveOf, specs.StreamDecoder.Terms, specs.StreamDecoder.complete, specs.StreamDecoder.most_kept, specs.StreamDecoder.report_at, specs.StreamDecoder.report_of, specs.StreamDecoder.signal_at, specs.StreamDecoder.signal_of, proofs.Following.lawful-back, proofs.Following.lawful-on}
pub use Rattle.rds_abi.specs.Stream.{AreClosed, AreCompleted, AreLeft, AreTooMany, IsFollowed, IsLeft, IsMostTaken, IsNear, RefusesEnd, RefusesFollowed, RefusesLast, RefusesOn, RefusesPush, RefusesStream, place_after, stream_in_c, stream_of, terms_of, totals_from_c, unheard}
pub use Rattle.rds_abi.specs.{Asked.AreGiven, Asked.IsFilled, Asked.IsTooMuch, Asked.asked, Asked.gap_of, Asked.gaps_of, Asked.recording_of, Asked.rules_of, Blocks.packed, Layout.item_in_c, Layout.totals_in_c, Layout.soft_item_in_c, Ranges.IsRun, Ranges.RefusesRun, Ranges.run_asked, Ranges.run_in_part, Ranges.state_in_c, Ranges.state_of, declared.layout.RdsGap.RdsGap, declared.layout.RdsItem.RdsItem, declared.layout.RdsRules.RdsRules, declared.layout.RdsState.RdsState, declared.layout.RdsStream.RdsStream, declared.refusal.Refusal.Refusal, declared.refusal.Refusal.TheVariants.SmallRoom, declared.refusal.Refusal.TheVariants.TooLong, Soft.again_in, Soft.HasHeardSoft, Soft.IsMargin, Soft.IsPushed, Soft.IsWrittenAgain, Soft.RefusesSoft, Soft.byte_count, Soft.bytes_of, Soft.piece_of, Soft.read_again, Soft.symbols_kept, Soft.byte_of}
pub use Rattle.rds_soft.{specs.declared.soft_item.SoftItem.SoftItem, specs.Symbols.hard_bit, specs.Symbols.sign, specs.ReadAgain.symbols_of, proofs.InsideLemmas.AllInside, proofs.InsideLemmas.AreSymbolsOf, proofs.InsideLemmas.ItemInside, proofs.InsideLemmas.items-same as again-same, proofs.InsideLemmas.run-inside}
