-- The names that proofs share: of std, of the crates below, and of the definitions.
pub use Rattle.std.proofs.Common.{Bool, Fits, IsTrue, List, MutBor, None, Option, Some, [], add-one, ap, append_assoc, ap₂, arith, bit_xor, cond, drop, false, get_or, inl, inr, length, length-take, lit<, ltb, map, min, refl, replicate, rules, set, slice_index, subst, suc, sym, take, true, zero, ℕ, ◌%◌, ◌*◌, ◌++◌, ◌+◌, ◌-◌, ◌/◌, ◌<◌, ◌^◌, ◌∙◌, ◌∷◌, ◌≡◌, ◌≢◌, ◌≤◌, ◌⊎◌}
pub use Rattle.std.proofs.lemmas.List.{append-nil, drop-append-le, drop-drop, drop_all, ext_get_or, get_or-append-add, get_or-drop, get_or-map, get_or-set_other, get_or-set_same, get_or-take, get_or_append_left, get_or_push, length-append, length-drop, length-map, length-set, map-append, take-append-le, take_all, take_more, take_rest}
pub use Rattle.std.proofs.lemmas.List.Elements.{All-head, All-tail}
pub use Rattle.std.proofs.lemmas.Simd.{Each1-get_or, bit_mask_l, bitmask_splat, get_or-chunk, get_or-put_chunk_at, get_or-put_chunk_below, get_or-replicate, get_or-sel_l, get_or-zip2, length-sel_l, length-zip2, pick_l_left, tops_compared}
pub use Rattle.std.{proofs.lemmas.Grind.common_steps, proofs.Math.Nat.min-eq_left, proofs.Math.Nat.min-eq_right, proofs.Math.Nat.min-le_left, proofs.Math.Nat.min-le_right, proofs.Math.Nat.one-mul, proofs.Math.Nat.pow-suc, proofs.Math.Nat.zero-mul, proofs.lemmas.Bool.cases_eq, proofs.lemmas.Bool.cases_lt, proofs.lemmas.Bool.cond_both, proofs.lemmas.Bool.eq-eqb, proofs.lemmas.Bool.eqb-false, proofs.lemmas.Bool.eqb-true, proofs.lemmas.Bool.false≢true, proofs.lemmas.Bool.le-ltb, proofs.lemmas.Bool.lt-ltb, proofs.lemmas.Bool.ltb-false, proofs.lemmas.Bool.ltb-true, proofs.lemmas.Int.to_z-of_z, proofs.lemmas.Int.to_z_pos, proofs.lemmas.List.FromFn.get_or-map-range_with_len, proofs.lemmas.List.FromFn.length-map-range_with_len, proofs.lemmas.Nat.xor_block, proofs.lemmas.Nat.xor_comm, proofs.lemmas.Nat.xor_lt, proofs.lemmas.Nat.xor_mod, proofs.lemmas.Nat.xor_shr, proofs.lemmas.Nat.Bits.bit_at-lt, proofs.lemmas.Nat.Bits.bit_at_cat_high, proofs.lemmas.Nat.Bits.bit_at_cat_low, proofs.lemmas.Nat.Bits.bit_at_lowest, proofs.lemmas.Nat.Bits.bit_at_xor, specs.Int.bit_at, specs.Int.cast_signed, specs.Int.is_positive, specs.Int.w8, specs.Int.Bits.xor_assoc, specs.Int.Bits.xor_self, specs.Int.Bits.xor_shifted, specs.Int.Bits.xor_zero_l, specs.Int.Bits.xor_zero_r, specs.Int.Digits.number_from_digits, specs.List.All, specs.List.drop-map, specs.List.list_any, specs.List.take-map, specs.Prelude.T, specs.Prelude.if◌then◌else◌, specs.Prelude.nat_lt, specs.Prelude.not, specs.Prelude.option_map, specs.Prelude.pos, specs.Prelude.slice_index_or, specs.Prelude.ℤ, specs.Prelude.⊤, specs.Prelude.◌&&◌, specs.Prelude.◌==◌}
pub use lib.Lanes.{all_below, pick_l, sel_l, zip2}
pub use Rattle.rds_code.specs.{Laws.IsLinear, Laws.ReadsByRule, Offsets.number, Offsets.offset_of, Offsets.word, Reading.IsReading, Reading.IsValid, Reading.allows, Reading.information, Reading.reading, Remainder.rem, declared.offset.Offset.Offset, declared.offset.Offset.TheVariants.A, declared.offset.Offset.TheVariants.B, declared.offset.Offset.TheVariants.C, declared.offset.Offset.TheVariants.Cx, declared.offset.Offset.TheVariants.D, declared.reading.Reading.TheVariants.Corrected, declared.reading.Reading.TheVariants.Corrected as HardCorrected, declared.reading.Reading.TheVariants.Lost, declared.reading.Reading.TheVariants.Lost as HardLost, declared.reading.Reading.TheVariants.Valid, declared.reading.Reading.TheVariants.Valid as HardValid, declared.reading.Wanted.Wanted, declared.reading.Wanted.TheVariants.Either, declared.reading.Wanted.TheVariants.OnlyC, declared.reading.Wanted.TheVariants.OnlyCx}
pub use Rattle.rds_live.{proofs.Following.at-most-more as hard-at-most-more, proofs.Following.last-ones, proofs.Following.lawful-back, proofs.Following.still-items, proofs.Following.still-state, proofs.GapParts.TouchAlike, proofs.GapParts.found-of-part, proofs.GapParts.part-touched, proofs.GapParts.start-touched, proofs.ItemPlaces.group-soon, proofs.ItemPlaces.run-early, proofs.Pieces.back-on, specs.Moving.EndsMove, specs.Moving.IsPartHeard, specs.Moving.RunsMove, specs.Moving.most_behind, specs.Moving.moved_item, specs.Moving.moved_items, specs.Moving.moved_state, specs.Next.moved_back, specs.Places.place_of}
pub use Rattle.rds_stream.specs.Recording.{AreGaps, Signal, bits_of, is_touched_by, length_of, packed_bit, reading_at}
unfoldable pub use Rattle.rds_stream.specs.Recording.{heard, touched, window}
pub use Rattle.rds_sync.specs.{Groups.block_in, Groups.blocks_at, Lawful.AreInOrder, Lawful.IsLawful, Laws.AcquisitionsAreLate, Laws.RunsAreLawful, Laws.RunsAreReports, Laws.RunsGiveFewItems, Laws.RunsJoin, Laws.StepsAreLawful, Rules.RuleNumbers, Step.completed_group, Step.history_after_block, Step.items_at, Step.items_of_end, Step.lock_after, Step.run, Step.step, declared.item.Block.Block, declared.item.Block.TheVariants.Missing, declared.item.Block.TheVariants.Read, declared.item.Item.Item, declared.item.Item.TheVariants.Acquired, declared.item.Item.TheVariants.Group, declared.item.Item.TheVariants.LostLock, declared.state.State.State, declared.state.State.TheVariants.Locked, declared.state.State.TheVariants.Searching}
unfoldable pub use Rattle.rds_sync.specs.Groups.{group}
pub use Rattle.rds_soft.specs.ReadAgain.{block_again, first_bit, group_again, lighter, own_of, reading_by, reading_heard, reading_or, symbols_heard, symbols_of, turn_of, turn_third, turn_to, was_read, within}
pub use Rattle.rds_soft.specs.{Inside.Lightest.AreLightest, Inside.Lightest.Leads, Inside.Lightest.confidence, Inside.Lightest.effect, Inside.Lightest.effect as the_effect, Inside.Lightest.is_flipped, Inside.Lightest.of_none, Inside.Packed.chunk_of, Inside.Packed.sign_at, Inside.Rows.AreLeast, Inside.Rows.AreRows, Inside.Rows.Follows, Inside.Rows.IsWalk, Inside.Streams.Knows, Inside.Streams.again_in, Inside.Streams.near_again, Inside.Streams.last_symbols, Inside.Streams.most_kept, Inside.Streams.moved_again, Inside.Streams.part_of, Inside.Streams.place_again, Laws.CorrectsSent, Laws.HasOneNearest, Laws.HasOneSoftReading, Laws.NoneTurnsValid, Laws.ReadsFromSymbols, Laws.SureSymbolsStay, Laws.SymbolsAreReadSo, Laws.SymbolsHaveWindows, Nearest.IsCorrection, Nearest.IsNearest, Nearest.Turns, Nearest.mask_of, Nearest.weight, SoftGroups.group_of, SoftGroups.wanted_beside, SoftStream.SoftHeard, SoftStream.SoftTerms, SoftStream.complete, SoftStream.group_item, SoftStream.read_again, SoftStream.report_of, SoftStream.run_of, SoftStream.signal_of, SoftTotals.AreAtMost, SoftTotals.plus, SoftTotals.soft_totals_of, Symbols.IsSoftReading, Symbols.confidences, Symbols.hard_bit, Symbols.hard_bits, Symbols.hard_window, Symbols.sign, declared.soft_item.SoftBlock.SoftBlock, declared.soft_item.SoftGroup.SoftGroup, declared.soft_item.SoftItem.SoftItem, declared.soft_item.SoftItem.TheVariants.Acquired as SoftAcquired, declared.soft_item.SoftItem.TheVariants.Group as InSoft, declared.soft_item.SoftItem.TheVariants.LostLock as SoftLostLock}
unfoldable pub use Rattle.rds_soft.specs.{Inside.Lightest.least, Inside.Lightest.lightest, Inside.Lightest.second, Inside.Lightest.sum_of, Inside.Lightest.weigh, ReadAgain.correction, ReadAgain.item_again, ReadAgain.soft_reading}
