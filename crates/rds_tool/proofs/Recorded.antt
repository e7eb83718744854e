-- A recording with gaps that was made, or refused, is what the definition says.
use Rattle.rds_tool.proofs.Names.{common_steps, ◌≡◌, ◌≤◌, ◌<◌, ◌*◌, ◌^◌, ◌∙◌, ◌↔◌, ℕ, Bool, Err, Ok, Result, ap, arith, false, inl, inr, length, refl, sym, true, Vec, IfOk, IsOk, vec_len, cases_lt, false≢true, le-ltb, lt-ltb, AreGaps, Signal, bits_of, first_bits, may_be_gaps}
use Rattle.rds_tool.proofs.GapLists.{are_gaps, pass_as_gaps}
use Rattle.rds_code.specs.declared.error.RdsError.{RdsError, TheVariants.BadGaps, TheVariants.BitsPastBytes, TheVariants.OutOfMemory, TheVariants.TooLong}

abbrev Made : Type 0
Made = Result Signal (RdsError × Vec ℕ × Vec (ℕ × ℕ))

-- the refusal, if it is one
abbrev error_of : Made → RdsError
error_of (Ok recording) = OutOfMemory
error_of (Err refused) = refused.0

module _ (bytes : Vec ℕ) (bits : ℕ) (gaps : Vec (ℕ × ℕ)) (made : Made)
    (taken : IsOk made ↔ ((bits ≤ 2 ^ 36) × (bits ≤ 8 * vec_len bytes) × AreGaps bits gaps.items)) where
  pub made_is : (recording : Signal) → made ≡ Ok recording → IfOk made (λ r. r ≡ record { bits = bits_of bytes.items bits; gaps = gaps.items })
      → Ok recording ≡ first_bits bits gaps.items bytes.items
  made_is recording is held = grind (arith, common_steps, le-ltb, pass_as_gaps)

  module _ (error : RdsError) (b : Vec ℕ) (g : Vec (ℕ × ℕ)) (is : made ≡ Err (error, b, g))
      (too_long : (made ≡ Err (TooLong, bytes, gaps)) ↔ (2 ^ 36 < bits))
      (past : (made ≡ Err (BitsPastBytes, bytes, gaps)) ↔ ((bits ≤ 2 ^ 36) × (8 * vec_len bytes < bits)))
      (bad : (made ≡ Err (BadGaps, bytes, gaps)) ↔ ((bits ≤ 2 ^ 36) × (bits ≤ 8 * vec_len bytes) × (AreGaps bits gaps.items → ⊥))) where
    same_error : (other : RdsError) → made ≡ Err (other, bytes, gaps) → error ≡ other
    same_error other so = sym (ap error_of is) ∙ ap error_of so

    no_recording : IsOk made → ⊥
    no_recording ok = let none : false ≡ true = rw is at ok in false≢true none

    by_gaps : bits ≤ 2 ^ 36 → bits ≤ 8 * length bytes.items → (lawful : Bool) → may_be_gaps 0 gaps.items bits ≡ lawful
        → Err error ≡ first_bits bits gaps.items bytes.items
    by_gaps short within it them = grind (arith, common_steps, no_recording, are_gaps, false≢true, pass_as_gaps, same_error, le-ltb)

    pub refused_is : Err error ≡ first_bits bits gaps.items bytes.items
    refused_is =
        elim (cases_lt (2 ^ 36) bits) [
          | inl long ↦ let e = same_error TooLong (too_long.1 long) in rw (lt-ltb (2 ^ 36) bits long, e) refl
          | inr short ↦ elim (cases_lt (8 * length bytes.items) bits) [
            | inl more ↦
                let e = same_error BitsPastBytes (past.1 (short, omega (arith, more, bytes.ok.0))) in
                rw (le-ltb (2 ^ 36) bits short, lt-ltb (8 * length bytes.items) bits more, e) refl
            | inr within ↦ by_gaps short within (may_be_gaps 0 gaps.items bits) refl
          ]
        ]

-- (an edit of must-fail/ makes a comment of this file up to here)
