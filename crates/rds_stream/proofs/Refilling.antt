-- Packed bits of which the first are put in the place of others.
use Rattle.rds_stream.proofs.Names.{common_steps, ◌≡◌, ℕ, ◌+◌, ◌-◌, ◌*◌, ◌/◌, ◌%◌, ◌<◌, ◌≤◌, ◌++◌, refl, sym, ap, ◌∙◌, arith, List, length, get_or, drop, length-drop, inl, inr, bit_at, cases_lt, length-append, get_or-drop, get_or_append_left, get_or-append_right, same_lists, get_or-map-range_with_len, packed_bit, bits_of}
use Rattle.rds_stream.proofs.Places.{length-bits_of}

-- the bits of bytes of which the first are others
module _ (bytes old : List ℕ) (n : ℕ) (within : 8 * length bytes ≤ n) where
  abbrev m : ℕ
  m = 8 * length bytes

  abbrev after : List ℕ
  after = bytes ++ drop (length bytes) old

  at_bit : (i d : ℕ) → i < n → get_or (bits_of after n) i d ≡ get_or (bits_of bytes m ++ drop m (bits_of old n)) i d
  at_bit i d held = elim (cases_lt i m) [
    | inl first ↦
        get_or-map-range_with_len (packed_bit after) 0 n i i d held (omega arith)
        ∙ ap (λ (byte : ℕ). bit_at byte (7 - i % 8)) (get_or_append_left bytes (drop (length bytes) old) 0 (i / 8) (omega arith))
        ∙ sym (get_or_append_left (bits_of bytes m) (drop m (bits_of old n)) d i (omega (arith, length-bits_of bytes m))
        ∙ get_or-map-range_with_len (packed_bit bytes) 0 m i i d first (omega arith))
    | inr later ↦
        let place : m + (i - m) ≡ i = omega arith in
        let byte : length bytes + (i / 8 - length bytes) ≡ i / 8 = omega arith in
        get_or-map-range_with_len (packed_bit after) 0 n i i d held (omega arith)
        ∙ ap (λ (x : ℕ). bit_at x (7 - i % 8))
        (get_or-append_right bytes (drop (length bytes) old) (length bytes) (i / 8) 0 refl (omega arith)
        ∙ get_or-drop (length bytes) old (i / 8 - length bytes) 0 ∙ ap (λ (k : ℕ). get_or old k 0) byte)
        ∙ sym (get_or-append_right (bits_of bytes m) (drop m (bits_of old n)) m i d (length-bits_of bytes m) later
        ∙ get_or-drop m (bits_of old n) (i - m) d ∙ ap (λ (k : ℕ). get_or (bits_of old n) k d) place
        ∙ get_or-map-range_with_len (packed_bit old) 0 n i i d held (omega arith))
  ]

  pub bits_refilled : bits_of after n ≡ bits_of bytes m ++ drop m (bits_of old n)
  bits_refilled = grind (arith, common_steps, same_lists, length-bits_of, length-append, length-drop, at_bit)
