-- The names that proofs share: of std, of the crates below, and of the definitions.
pub use Rattle.std.proofs.Common.{Bool, IfSome, IsTrue, List, None, Option, Some, [], ap, ap₂, arith, bit_and, bit_or, bit_xor, cond, drop, eqb, false, find, get_or, if◌then◌else◌, inl, inr, leb, length, lit<, lit≤, ltb, map, not, pow-add, pow_mono, refl, replicate, set, slice_index, subst, suc, sym, take, true, vec_capacity, vec_items, vec_len, zero, ℕ, ◌%◌, ◌&&◌, ◌*◌, ◌++◌, ◌+◌, ◌-◌, ◌/◌, ◌<◌, ◌==◌, ◌^◌, ◌∙◌, ◌∷◌, ◌≡◌, ◌≢◌, ◌≤◌, ◌⊎◌}
pub use Rattle.std.{proofs.Math.Nat.mul-div_cancel, proofs.Math.Nat.mul-le-mul_right, proofs.Math.Nat.mul-suc, proofs.Math.Nat.mul_assoc, proofs.Math.Nat.one-mul, proofs.Math.Nat.pow-suc, proofs.Math.Nat.suc-mul, proofs.Math.Nat.zero-mul, proofs.lemmas.Bool.cases_Bool, proofs.lemmas.Bool.cases_eq, proofs.lemmas.Bool.cases_lt, proofs.lemmas.Bool.eq-eqb, proofs.lemmas.Bool.eqb-true, proofs.lemmas.Bool.le-leb, proofs.lemmas.Bool.leb-true, proofs.lemmas.Bool.lt-ltb, proofs.lemmas.Bool.ltb-true, proofs.lemmas.Bool.ne_eqb, proofs.lemmas.List.get_or-append-add, proofs.lemmas.List.get_or-replicate, proofs.lemmas.List.get_or-set_other, proofs.lemmas.List.get_or-set_same, proofs.lemmas.List.get_or_append_left, proofs.lemmas.List.get_or_default, proofs.lemmas.List.length-append, proofs.lemmas.List.length-replicate, proofs.lemmas.List.take-append-le, proofs.lemmas.List.take_all, proofs.lemmas.Nat.Bits.bit_at-lt, proofs.lemmas.Nat.Bits.bit_at-zero, proofs.lemmas.Nat.Bits.bit_at_above, proofs.lemmas.Nat.Bits.bit_at_cat_high, proofs.lemmas.Nat.Bits.bit_at_cat_low, proofs.lemmas.Nat.Bits.bit_at_lowest, proofs.lemmas.Nat.Bits.bit_at_xor, proofs.lemmas.Nat.Bits.shr_and_one, proofs.lemmas.Grind.common_steps, proofs.lemmas.List.FromFn.get_or-map-range_with_len, proofs.lemmas.Nat.or_shifted, proofs.lemmas.Nat.pow_pos, proofs.lemmas.Nat.xor_comm, proofs.lemmas.Nat.xor_lt, proofs.lemmas.Nat.xor_mod, proofs.lemmas.Nat.xor_shr, specs.Int.bit_at, specs.Int.Bits.xor_assoc, specs.Int.Bits.xor_self, specs.Int.Bits.xor_shifted, specs.Int.Bits.xor_zero_l, specs.Int.Bits.xor_zero_r, specs.Int.Count.leading_top, specs.Int.Count.ones-le, specs.Int.Count.ones_cat, specs.Int.Count.ones_step, specs.Int.Count.under, specs.List.AllPairs, specs.List.Contains, specs.List.filter, specs.List.range_with_len, specs.Prelude.⊤, proofs.lemmas.List.Elements.Contains-append_left, proofs.lemmas.List.Elements.Contains-append_right, proofs.lemmas.List.Elements.Contains-append_cases, proofs.Math.Seq.get_or-append_seam, proofs.lemmas.Bool.Decides.eqb_tells}
unfoldable pub use Rattle.std.specs.Int.Count.{count_leading_zeros, count_trailing_zeros, ones}
pub use borrow.Author.Count.{below_more}
pub use Rattle.rds_code.specs.Detection.{CountsAllCorrected, CountsAllMiscorrections, DetectsBitErrors, DetectsErrorBursts, HasOneWordPerRemainder, ListsAllErrorMasks, burst_counts, error_masks, is_miscorrection, miscorrected, miscorrected_either, miscorrected_third, miscorrections, remainders_near}
pub use Rattle.rds_code.specs.{Correction.CorrectsBurst, Correction.CorrectsThird, Correction.ReadsAsSent, Correction.TakesOtherVersion, Correction.alone, Correction.other_third_offset, Correction.version_burst, Reading.IsReading, Reading.IsValid, Reading.allows, Reading.by_only, Reading.corrected, Reading.corrections, Reading.information, Reading.read_from, Reading.reading, Reading.wanted_offsets, Bursts.IsBurst, Bursts.burst_length, Bursts.bursts, Encoding.IsBlockOf, Encoding.encoded, Encoding.offset_by_version, Inside.BurstTable.HasBurst, Inside.BurstTable.IsBurstTable, Inside.BurstTable.IsSound, Inside.Outcomes.HasNoBurst, Inside.Outcomes.IsEntry, Inside.Outcomes.IsOutcome, Inside.Outcomes.IsTurn, Inside.Outcomes.StandIn, Inside.Outcomes.wanted_at, Offsets.all_offsets, Offsets.number, Offsets.offset_of, Offsets.word, Outcomes.burst_outcome, Outcomes.outcome_number, Outcomes.wanted_after, Outcomes.wanted_of_info, Remainder.IsRemainder, Remainder.generator, declared.offset.Offset.Offset, declared.offset.Offset.TheVariants.A, declared.offset.Offset.TheVariants.B, declared.offset.Offset.TheVariants.C, declared.offset.Offset.TheVariants.Cx, declared.offset.Offset.TheVariants.D, declared.reading.Reading.Reading, declared.reading.Reading.TheVariants.Corrected, declared.reading.Reading.TheVariants.Lost, declared.reading.Reading.TheVariants.Valid, declared.reading.Wanted.Wanted, declared.reading.Wanted.TheVariants.Either, declared.reading.Wanted.TheVariants.OnlyC, declared.reading.Wanted.TheVariants.OnlyCx, declared.byte_remainders.TheConstants.MIDDLE, declared.byte_remainders.TheConstants.HIGH}
unfoldable pub use Rattle.rds_code.specs.Remainder.{multiple, reduce, rem}
