-- The names that proofs share: of std, of the crates below, and of the definitions.
pub use Rattle.std.proofs.Common.{Bool, Bor, Fits, IsSome, List, None, Option, Some, [], add-one, ap, arith, bit_and, bit_or, bit_xor, drop, false, get_or, if◌then◌else◌, inl, inr, leb, leb-false, leb-true, length, length-drop, ltb, map, nat_eq, option_map, refl, replicate, rules, slice_index, subst, suc, sym, take, true, true≢false, w64, w8, zero, ℕ, ⊎_elim, ◌%◌, ◌&&◌, ◌*◌, ◌++◌, ◌+◌, ◌-◌, ◌/◌, ◌<◌, ◌^◌, ◌↔◌, ◌∙◌, ◌∷◌, ◌≡◌, ◌≢◌, ◌≤◌, ◌⊎◌}
pub use Rattle.std.proofs.lemmas.Nat.Bits.{bit_at-lt, bit_at-suc, bit_at-trailing_zeros, bit_at-zero, bit_at_above, bit_at_and, bit_at_cat_high, bit_at_cat_low, bit_at_lowest, bit_at_ones, bit_at_ones_above, bit_at_or, bit_at_set_other, bit_at_set_same, bit_at_xor, same_from_bits_below, shr_and_one}
pub use Rattle.std.{proofs.lemmas.Bool.MatchBool-at_false, proofs.lemmas.Bool.MatchBool-at_true, proofs.lemmas.Bool.cases_Bool, proofs.lemmas.Bool.cases_eq, proofs.lemmas.Bool.cases_lt, proofs.lemmas.Bool.le-leb, proofs.lemmas.Bool.le-ltb, proofs.lemmas.Bool.lt-leb, proofs.lemmas.Bool.lt-ltb, proofs.lemmas.Bool.ne_eqb, proofs.lemmas.List.append-nil, proofs.lemmas.List.get_or-append_right, proofs.lemmas.List.get_or-drop, proofs.lemmas.List.get_or_append_left, proofs.lemmas.List.length-append, proofs.lemmas.List.map-id, proofs.lemmas.List.same_lists, proofs.lemmas.List.with_items_is, proofs.lemmas.Nat.and_mask, proofs.lemmas.Nat.div_below, proofs.lemmas.Nat.mod_below, proofs.lemmas.Nat.mod_low, proofs.lemmas.Nat.or_shifted, proofs.lemmas.Nat.pow_pos, proofs.lemmas.Nat.shr-shr, proofs.lemmas.Nat.shr_high, proofs.lemmas.Nat.shr_split, proofs.Math.Nat.mod-eq_of_lt, proofs.Math.Nat.mul_assoc, proofs.Math.Nat.pow-suc, proofs.lemmas.Grind.common_steps, proofs.lemmas.List.FromFn.get_or-map-range_with_len, proofs.lemmas.List.FromFn.length-map-range_with_len, proofs.lemmas.List.FromFn.map-range_with_len_more, proofs.lemmas.List.Sorted.IsNonDecreasingBy-from_all_adjacent, proofs.lemmas.List.Sorted.IsPartitionPoint-from_clause, proofs.lemmas.List.Sorted.IsPartitionedBy-leb, proofs.lemmas.List.Sorted.answers_always, proofs.lemmas.Simd.get_or-replicate, proofs.lemmas.Simd.get_or-zip2, proofs.lemmas.Simd.length-zip2, specs.Int.bit_at, specs.List.HoldsAt, specs.List.cons_option, specs.List.filter_map, specs.List.range_with_len, specs.List.Sorted.IsNonDecreasingBy, specs.List.Sorted.IsPartitionPoint, proofs.lemmas.List.Elements.filter_map-append, specs.Int.Digits.number_from_digits, proofs.lemmas.Int.Digits.number_more as digits_more, specs.Int.Bits.xor_shifted}
pub use Rattle.rds_code.{specs.Offsets.offset_of, specs.Offsets.word, specs.declared.offset.Offset.Offset, proofs.Membership.each_below, specs.declared.offset.Offset.TheVariants.A, specs.declared.offset.Offset.TheVariants.B, specs.declared.offset.Offset.TheVariants.C, specs.declared.offset.Offset.TheVariants.Cx, specs.declared.offset.Offset.TheVariants.D, specs.Laws.IsLinear}
unfoldable pub use Rattle.rds_code.specs.Remainder.{rem}
pub use mathlib.Core.Path.{ap₂}
pub use Rattle.rds_stream.specs.{Recording.AreGaps, Recording.Signal, Recording.bits_of, Recording.is_touched_by, Recording.offset_heard, Recording.packed_bit, Recording.valid_at, Recording.valid_windows, Inside.Gaps.AllEndBy, Inside.Gaps.IsFirstAfter, Inside.Lanes.HoldInLane, Inside.Lanes.IsWindowAt, Inside.Lanes.lane, Inside.Sections.IsSection, Inside.ValidPlaces.TellsValidPlaces, ValidWindows.GivesFirst, ValidWindows.NoneValid, ValidWindows.WindowsLeft, declared.valid_places.ValidPlaces.ValidPlaces, declared.gaps.Section.Section}
unfoldable pub use Rattle.rds_stream.specs.Recording.{heard, offset_at, touched, window}
pub use borrow.Author.Count.{below_more}
