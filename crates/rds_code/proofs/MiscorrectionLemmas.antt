-- How many error masks of two, three and four bit errors miscorrect a block: the remainder and the span of the mask decide. The counts are
-- computed, bit by bit.
use Rattle.rds_code.proofs.Names.{common_steps, ◌≡◌, ◌≢◌, ◌⊎◌, ℕ, zero, suc, ◌+◌, ◌-◌, ◌*◌, ◌/◌, ◌%◌, ◌^◌, ◌<◌, ◌≤◌, List, [], ◌∷◌, ◌++◌, length, get_or, map, Bool, true, false, cond, not, ◌&&◌, refl, sym, ap, ap₂, ◌∙◌, arith, inl, inr, eqb, leb, subst, bit_xor, lit<, filter, pow-suc, xor_assoc, xor_self, xor_zero_r, xor_shifted, count_leading_zeros, count_trailing_zeros, ones-le, xor_comm, xor_lt, cases_Bool, cases_eq, cases_lt, eq-eqb, eqb-true, ne_eqb, le-leb, leb-true, Offset, A, B, C, Cx, D, Wanted, Either, Reading, Corrected, rem, word, number, offset_of, burst_length, IsBurst, bursts, information, IsValid, wanted_offsets, corrections, by_only, reading, IsBlockOf, alone, other_third_offset, error_masks, is_miscorrection, miscorrections, miscorrected, miscorrected_third, miscorrected_either, CountsAllMiscorrections}
use Rattle.rds_code.proofs.ReadingLemmas.{NoneFits, OneFits, fitting, fits_or_not, corrections_none, corrections_one, corrections_two, fits_by_remainder, wanted_remainder, wanted_remainder-lt, reads_valid, reads_corrected, valid_or_not, only_A, only_B, only_D, wanted_1, wanted_2, wanted_4}
use Rattle.rds_code.proofs.{Membership.is_among, Membership.all_below, Membership.all_pass, Membership.passes_among, Membership.passes_below, Membership.EachBelow, Membership.each_below, Membership.from_map, Membership.filter_agree, CorrectionLemmas.undone, CorrectionLemmas.damaged, CorrectionLemmas.became, CorrectionLemmas.word_offset, CorrectionLemmas.alone_wanted, CorrectionLemmas.own_or_other, CorrectionLemmas.other_number, RemainderLemmas.rem-short, RemainderLemmas.rem-xor, RemainderLemmas.twice, BurstLemmas.burst_is_one, BurstLemmas.longer, BurstLemmas.among_is_burst, BurstLemmas.burst_is_among, EncodingLemmas.encoded_only, ErrorMasks.masks_are}
use Rattle.std.proofs.Math.Pow.{pow_pos}

-- ---- the remainders of the bursts, as the digits of a number

-- digit r, of three bits, is the length of the burst with remainder r, and 6 if no burst of up to five bits has it
lengths : ℕ
lengths = 0xD5ED6EDAED76DB6BB6B35D9DDB6DB3B74DA6D2E9B5DB6D343B6D96DB6DB63B3DB6DB6BB5DB6BB6D35DB4DB6D73D26DB3BB4DAEDB6C71DAED76DB6BB5D8ED4EDB5DB6DB6BB5BB6DB4DB6D66BB4DB6B73DAED76CF5D36DB6DB6DAEDAE3B6DB63B2BB6DAEDB6D72DB6DB53B3D9DDB6DB6DB6DB6D765B23B6D74DB6D1ED669B6D76D9ED36DB5CF5D26D66DAABB6DB6DB6DB3DB672EBA6D2EBB5D76D76DB5D6EDB5DB5BB6DACBB6D6E734D66DA5DB4DB69B4DAEDA6B75DB69B6BABD66DB6D76D76DB1BAEDAEDB6975DB3B369B5DA4DB6DB6CF6DB5DB696CDAB9B3D36D89DAEDB5DAED76DB5DB4DAE936AF6B9D9B6DB6DB6DB2DB6DAADB5CF5DAEDB6BB2DACDA6BB6BB69B5766BB2DB6DB37A6DA6D6EBB5BB5D76D36BA4BB5D36D36DADDB6CEEDAEBB1DB6DADCE6D74DB67B5DACCF39B1DB5DAE974DA67B5DB6DB2DB2D5DDB6CB4DB6DB5BB2DB3DB6BB5D6E9B4D669B5D9EDA9DB57AC3B5D1BC75DACDB5DB2CADD94DB5CB3DB5BB4BB5DB1D74D63374D72574D53D6CD71B2BB2AB2BB298E28E169944E

length_of : ℕ → ℕ
length_of r = lengths / 2 ^ (3 * r) % 8

abbrev is_near : ℕ → ℕ → Bool
is_near limit r = leb (length_of r) limit

has_length : ℕ → Bool
has_length e = eqb (length_of (rem e)) (burst_length e)

all_have_length : all_pass has_length (bursts 5) ≡ true
unfolding has_length length_of lengths rem count_leading_zeros count_trailing_zeros
all_have_length = refl

is_found : List ℕ → ℕ → Bool
is_found rs r = cond (leb (length_of r) 5) (is_among r rs) true

all_found : all_below (is_found (map rem (bursts 5))) 1024 ≡ true
unfolding is_found length_of lengths rem
all_found = refl

-- the damaged block v needs this remainder of a burst that makes of it one with offset o
near_none : (limit v : ℕ) (o : Offset) → limit ≤ 5 → bit_xor (rem v) (word o) < 1024 → NoneFits limit v o → is_near limit (bit_xor (rem v) (word o)) ≡ false
unfolding has_length is_found
near_none limit v o few small h =
    let r : ℕ = bit_xor (rem v) (word o) in
    elim (cases_Bool (leb (length_of r) limit)) [
      | inl near ↦
          let least = leb-true (length_of r) limit near in
          let found = sym (ap (λ (b : Bool). cond b (is_among r (map rem (bursts 5))) true) (le-leb (length_of r) 5 (omega (arith, least, few)))) ∙ passes_below (is_found (map rem (bursts 5))) 1024 r all_found small in
          let from = from_map rem r (bursts 5) found in
          let is : length_of (rem from.0) ≡ burst_length from.0 = eqb-true (length_of (rem from.0)) (burst_length from.0) (passes_among has_length from.0 (bursts 5) all_have_length from.1) in
          let burst = among_is_burst from.0 from.1 in
          absurd (h.none from.0 (record { is_block = burst.is_block; not_zero = burst.not_zero; short = omega (arith, least, is, ap length_of from.2) }) (fits_by_remainder v from.0 o from.2))
      | inr far ↦ far
    ]

near_one : (limit v : ℕ) (o : Offset) (d : ℕ) → limit ≤ 5 → OneFits limit v o d → is_near limit (bit_xor (rem v) (word o)) ≡ true
unfolding has_length
near_one limit v o d few h =
    let listed = burst_is_among d (longer limit d few h.burst) in
    let is : length_of (rem d) ≡ burst_length d = eqb-true (length_of (rem d)) (burst_length d) (passes_among has_length d (bursts 5) all_have_length listed) in
    le-leb (length_of (bit_xor (rem v) (word o))) limit (omega (arith, is, h.burst.short, ap length_of (wanted_remainder v d o h.fits)))

-- ---- the tests of a mask, by its remainder and its span

-- one offset is wanted: the mask makes no valid block, its remainder is that of a burst, and it is no such burst itself. s is the remainder
-- that makes of block 3 a valid one of the other version, and 0 for the other blocks
own_test : ℕ → ℕ → ℕ → ℕ → Bool
own_test s limit r n = cond (eqb r s) false (cond (is_near limit r) (not (leb n limit)) false)

one_of : Bool → Bool → Bool → Bool
one_of true true another = false
one_of true false another = another
one_of false b another = b

-- C and C' are wanted: a burst fits only one of them
either_test : ℕ → ℕ → ℕ → Bool
either_test limit r n = cond (eqb r 0) false (cond (eqb r 0x238) false (one_of (is_near limit r) (is_near limit (bit_xor r 0x238)) (not (leb n limit))))

near_zero : (limit : ℕ) → limit ≤ 5 → is_near limit 0 ≡ false
unfolding length_of lengths
near_zero limit few = each_below (λ l. is_near l 0 ≡ false) 6 (refl, (refl, (refl, (refl, (refl, (refl, tt)))))) limit (omega (arith, few))

-- ---- the reading of a damaged block

mis_own : (o : Offset) (info j d : ℕ) → is_miscorrection o info (Corrected o j d) ≡ not (eqb j info)
mis_own o info j d = ap (λ (b : Bool). not (b && eqb j info)) (eq-eqb (word o) (word o) refl)

module _ (w info e limit : ℕ) (o : Offset) (h : IsBlockOf w info o) (inside : e < 2 ^ 26) (few : limit ≤ 5) where
  abbrev v : ℕ
  v = bit_xor w e

  v-lt : v < 2 ^ 26
  v-lt = xor_lt 26 w e h.is_block inside

  -- the remainder of a burst that makes of it a block with its own offset again
  own_remainder : bit_xor (rem v) (word o) ≡ rem e
  own_remainder = xor_comm (rem v) (word o) ∙ ap (bit_xor (word o)) (damaged w info e o h) ∙ twice (word o) (rem e)

  -- such a burst gives the information word that was sent if it is the mask
  told : (d : ℕ) → IsBurst limit d → rem (bit_xor v d) ≡ word o → 0 < e → eqb (information (bit_xor v d)) info ≡ leb (burst_length e) limit
  told d burst fits pos =
      let same_rem : rem d ≡ rem e = wanted_remainder v d o fits ∙ own_remainder in
      elim (cases_Bool (leb (burst_length e) limit)) [
        | inl short ↦
            let mask : IsBurst limit e = record { is_block = inside; not_zero = pos; short = leb-true (burst_length e) limit short } in
            let is : d ≡ e = burst_is_one d e (longer limit d few burst) (longer limit e few mask) same_rem in
            eq-eqb (information (bit_xor v d)) info (ap (λ (x : ℕ). information (bit_xor v x)) is ∙ ap information (undone w e) ∙ h.above) ∙ sym short
        | inr long ↦
            ne_eqb (information (bit_xor v d)) info (λ above.
            let block : IsBlockOf (bit_xor v d) info o = record { is_block = xor_lt 26 v d v-lt burst.is_block; above = above; remainder = fits } in
            let whole : bit_xor v d ≡ w = encoded_only (bit_xor v d) info o block ∙ sym (encoded_only w info o h) in
            let is : d ≡ e = sym (twice v d) ∙ ap (bit_xor v) whole ∙ xor_comm v w ∙ twice w e in
            let no : false ≡ true = sym long ∙ ap (λ (x : ℕ). leb (burst_length x) limit) (sym is) ∙ le-leb (burst_length d) limit burst.short in
            cc no)
            ∙ sym long
      ]

  -- one offset is wanted
  by_own : (x : ℕ) (wanted : Wanted) → wanted_offsets x wanted ≡ o ∷ [] → ((p : Offset) → IsValid v x p → ⊥) → 0 < e
      → is_miscorrection o info (reading v x wanted limit) ≡ cond (is_near limit (rem e)) (not (leb (burst_length e) limit)) false
  by_own x wanted list not_valid pos =
      let small : bit_xor (rem v) (word o) < 1024 = wanted_remainder-lt v o v-lt in
      let read : reading v x wanted limit ≡ by_only v (corrections (o ∷ []) limit v) = reads_corrected v x wanted limit not_valid ∙ ap (λ (os : List Offset). by_only v (corrections os limit v)) list in
      elim (fits_or_not limit v o few) [
        | inl none ↦
            let far : is_near limit (rem e) ≡ false = ap (is_near limit) (sym own_remainder) ∙ near_none limit v o few small none in
            ap (is_miscorrection o info) (read ∙ ap (by_only v) (corrections_none limit v o none)) ∙ sym (ap (λ (b : Bool). cond b (not (leb (burst_length e) limit)) false) far)
        | inr some ↦
            let d : ℕ = some.0 in
            let one = some.1 in
            let close : is_near limit (rem e) ≡ true = ap (is_near limit) (sym own_remainder) ∙ near_one limit v o d few one in
            ap (is_miscorrection o info) (read ∙ ap (by_only v) (corrections_one limit v o d one))
            ∙ mis_own o info (information (bit_xor v d)) d
            ∙ ap not (told d one.burst one.fits pos)
            ∙ sym (ap (λ (b : Bool). cond b (not (leb (burst_length e) limit)) false) close)
      ]

  own_is : (x : ℕ) (wanted : Wanted) (s : ℕ) → wanted_offsets x wanted ≡ o ∷ [] → ((p : Offset) → IsValid v x p → (rem e ≡ 0) ⊎ (rem e ≡ s))
      → (rem e ≡ s → (p : Offset) × IsValid v x p) → 0 < e → is_miscorrection o info (reading v x wanted limit) ≡ own_test s limit (rem e) (burst_length e)
  unfolding own_test
  own_is x wanted s list leaves makes pos = elim (valid_or_not v x) [
    | inl some ↦
        let read = ap (is_miscorrection o info) (reads_valid v x wanted limit some.0 some.1) in
        elim (cases_eq (rem e) s) [
          | inl here ↦ read ∙ sym (ap (λ (b : Bool). cond b false (cond (is_near limit (rem e)) (not (leb (burst_length e) limit)) false)) (eq-eqb (rem e) s here))
          | inr other ↦ elim (leaves some.0 some.1) [
            | inl zero_left ↦
                let far : is_near limit (rem e) ≡ false = ap (is_near limit) zero_left ∙ near_zero limit few in
                read
                ∙ sym (ap (λ (b : Bool). cond b false (cond (is_near limit (rem e)) (not (leb (burst_length e) limit)) false)) (ne_eqb (rem e) s other)
                ∙ ap (λ (b : Bool). cond b (not (leb (burst_length e) limit)) false) far)
            | inr here ↦ absurd (other here)
          ]
        ]
    | inr none ↦
        by_own x wanted list none pos
        ∙ sym (ap (λ (b : Bool). cond b false (cond (is_near limit (rem e)) (not (leb (burst_length e) limit)) false)) (ne_eqb (rem e) s (λ here. let made = makes here in none made.0 made.1)))
  ]

-- ---- block 3, if C and C' are wanted

-- a reading by the pairs of two offsets, of each of which no burst fits or one
by_pairs : ℕ → Offset → Offset → List ℕ → List ℕ → Reading
by_pairs v o p es ds = by_only v (map {B = Offset × ℕ} (λ e. (o, e)) es ++ (map {B = Offset × ℕ} (λ e. (p, e)) ds ++ []))

-- the bursts that fit, none or one
record Fitting (limit v : ℕ) (o : Offset) (es : List ℕ) : Type 0 where
  list : fitting limit v o ≡ es
  is : ((es ≡ []) × (is_near limit (bit_xor (rem v) (word o)) ≡ false)) ⊎ ((d : ℕ) × (es ≡ d ∷ []) × OneFits limit v o d × (is_near limit (bit_xor (rem v) (word o)) ≡ true))

fitting_is : (limit v : ℕ) (o : Offset) → limit ≤ 5 → v < 2 ^ 26 → (es : List ℕ) × Fitting limit v o es
fitting_is limit v o few inside = grind (arith, common_steps, wanted_remainder-lt, fits_or_not, near_none, near_one)

module _ (w info e limit : ℕ) (o p : Offset) (h : IsBlockOf w info o) (inside : e < 2 ^ 26) (few : limit ≤ 5) (pos : 0 < e)
    (other : (j d : ℕ) → is_miscorrection o info (Corrected p j d) ≡ true) (sum : bit_xor (word o) (word p) ≡ 0x238) where
  other_remainder : bit_xor (rem (bit_xor w e)) (word p) ≡ bit_xor (rem e) 0x238
  other_remainder =
      ap (λ (n : ℕ). bit_xor n (word p)) (damaged w info e o h ∙ xor_comm (word o) (rem e)) ∙ xor_assoc (rem e) (word o) (word p) ∙ ap (bit_xor (rem e)) sum

  abbrev is_e : Bool
  is_e = not (leb (burst_length e) limit)

  abbrev near_both : Bool
  near_both = one_of (is_near limit (rem e)) (is_near limit (bit_xor (rem e) 0x238)) is_e

  both_near : (a b : Bool) → is_near limit (rem e) ≡ a → is_near limit (bit_xor (rem e) 0x238) ≡ b → near_both ≡ one_of a b is_e
  both_near a b ha hb = ap₂ (λ (x y : Bool). one_of x y is_e) ha hb

  -- the reading by the pairs, the own offset's first or the other's
  pairs_are : (es ds : List ℕ) → Fitting limit (bit_xor w e) o es → Fitting limit (bit_xor w e) p ds
      → (is_miscorrection o info (by_pairs (bit_xor w e) o p es ds) ≡ near_both) × (is_miscorrection o info (by_pairs (bit_xor w e) p o ds es) ≡ near_both)
  unfolding by_pairs one_of
  pairs_are es ds own another = elim own.is [
    | inl none ↦ elim another.is [
      | inl none2 ↦ grind (arith, common_steps, both_near, own_remainder w info e limit o h inside few, other_remainder, mis_own, told w info e limit o h inside few, other)
      | inr some2 ↦ grind (arith, common_steps, both_near, own_remainder w info e limit o h inside few, other_remainder, mis_own, told w info e limit o h inside few, other)
    ]
    | inr some ↦ elim another.is [
      | inl none2 ↦ grind (arith, common_steps, both_near, own_remainder w info e limit o h inside few, other_remainder, mis_own, told w info e limit o h inside few, other)
      | inr some2 ↦ grind (arith, common_steps, both_near, own_remainder w info e limit o h inside few, other_remainder, mis_own, told w info e limit o h inside few, other)
    ]
  ]

  both_is : ((q : Offset) → IsValid (bit_xor w e) 3 q → (rem e ≡ 0) ⊎ (rem e ≡ 0x238)) → (rem e ≡ 0 → (q : Offset) × IsValid (bit_xor w e) 3 q) → (rem e ≡ 0x238 → (q : Offset) × IsValid (bit_xor w e) 3 q)
      → (((q : Offset) → IsValid (bit_xor w e) 3 q → ⊥) → is_miscorrection o info (reading (bit_xor w e) 3 Either limit) ≡ near_both)
      → is_miscorrection o info (reading (bit_xor w e) 3 Either limit) ≡ either_test limit (rem e) (burst_length e)
  unfolding either_test
  both_is leaves makes takes damaged_is =
      let second : Bool = cond (eqb (rem e) 0x238) false near_both in
      elim (cases_eq (rem e) 0) [
        | inl none ↦ let some = makes none in ap (is_miscorrection o info) (reads_valid (bit_xor w e) 3 Either limit some.0 some.1) ∙ sym (ap (λ (b : Bool). cond b false second) (eq-eqb (rem e) 0 none))
        | inr not_none ↦ elim (cases_eq (rem e) 0x238) [
          | inl here ↦
              let some = takes here in
              ap (is_miscorrection o info) (reads_valid (bit_xor w e) 3 Either limit some.0 some.1)
              ∙ sym (ap (λ (b : Bool). cond b false second) (ne_eqb (rem e) 0 not_none) ∙ ap (λ (b : Bool). cond b false near_both) (eq-eqb (rem e) 0x238 here))
          | inr not_here ↦
              damaged_is (λ q valid. elim (leaves q valid) [ inl none ↦ not_none none | inr here ↦ not_here here ])
              ∙ sym (ap (λ (b : Bool). cond b false second) (ne_eqb (rem e) 0 not_none) ∙ ap (λ (b : Bool). cond b false near_both) (ne_eqb (rem e) 0x238 not_here))
        ]
      ]

-- ---- by offset

-- the mask makes a valid block: one with its own offset if its remainder is 0
own_again : (w info e : ℕ) (o : Offset) → IsBlockOf w info o → rem e ≡ 0 → IsValid (bit_xor w e) (number o) o
own_again w info e o h none =
    let left : rem (bit_xor w e) ≡ word o = damaged w info e o h ∙ ap (bit_xor (word o)) none ∙ xor_zero_r (word o) in
    record { offset = ap offset_of left ∙ word_offset o; own = refl }

own_only : (w info e : ℕ) (o : Offset) → IsBlockOf w info o → ((p : Offset) → number p ≡ number o → p ≡ o) → (p : Offset) → IsValid (bit_xor w e) (number o) p → (rem e ≡ 0) ⊎ (rem e ≡ 0)
own_only w info e o h only p valid = inl (became w info e (number o) o p h valid ∙ ap (λ (q : Offset). bit_xor (word o) (word q)) (only p valid.own) ∙ xor_self (word o))

others_are : (w info e limit : ℕ) (o : Offset) (wanted : Wanted) → IsBlockOf w info o → e < 2 ^ 26 → limit ≤ 5 → 0 < e → number o ≢ 3
    → is_miscorrection o info (reading (bit_xor w e) (number o) wanted limit) ≡ own_test 0 limit (rem e) (burst_length e)
others_are w info e limit A wanted h inside few pos apart = own_is w info e limit A h inside few 1 wanted 0 (wanted_1 wanted).0 (own_only w info e A h only_A) (λ none. (A, own_again w info e A h none)) pos
others_are w info e limit B wanted h inside few pos apart = own_is w info e limit B h inside few 2 wanted 0 (wanted_2 wanted).0 (own_only w info e B h only_B) (λ none. (B, own_again w info e B h none)) pos
others_are w info e limit D wanted h inside few pos apart = own_is w info e limit D h inside few 4 wanted 0 (wanted_4 wanted).0 (own_only w info e D h only_D) (λ none. (D, own_again w info e D h none)) pos
others_are w info e limit C wanted h inside few pos apart = absurd (apart refl)
others_are w info e limit Cx wanted h inside few pos apart = absurd (apart refl)

sum_of : (o : Offset) → number o ≡ 3 → bit_xor (word o) (word (other_third_offset o)) ≡ 0x238
sum_of o own = grind (arith, common_steps)

-- a block 3 is valid by either version
third_leaves : (w info e : ℕ) (o : Offset) → IsBlockOf w info o → number o ≡ 3 → (p : Offset) → IsValid (bit_xor w e) 3 p → (rem e ≡ 0) ⊎ (rem e ≡ 0x238)
third_leaves w info e o h own p valid =
    let left : rem e ≡ bit_xor (word o) (word p) = became w info e 3 o p h valid in
    elim (own_or_other o p own valid.own) [
      | inl same ↦ inl (left ∙ ap (λ (q : Offset). bit_xor (word o) (word q)) same ∙ xor_self (word o))
      | inr other ↦ inr (left ∙ ap (λ (q : Offset). bit_xor (word o) (word q)) other ∙ sum_of o own)
    ]

third_makes : (w info e : ℕ) (o : Offset) → IsBlockOf w info o → number o ≡ 3 → rem e ≡ 0 → (p : Offset) × IsValid (bit_xor w e) 3 p
third_makes w info e o h own none = (o, subst (λ (x : ℕ). IsValid (bit_xor w e) x o) own (own_again w info e o h none))

third_takes : (w info e : ℕ) (o : Offset) → IsBlockOf w info o → number o ≡ 3 → rem e ≡ 0x238 → (p : Offset) × IsValid (bit_xor w e) 3 p
third_takes w info e o h own here =
    let left : rem (bit_xor w e) ≡ word (other_third_offset o) =
    damaged w info e o h ∙ ap (bit_xor (word o)) (here ∙ sym (sum_of o own)) ∙ twice (word o) (word (other_third_offset o)) in
    (other_third_offset o, record { offset = ap offset_of left ∙ word_offset (other_third_offset o); own = other_number o })

third_is : (w info e limit : ℕ) (o : Offset) → IsBlockOf w info o → e < 2 ^ 26 → limit ≤ 5 → 0 < e → number o ≡ 3
    → is_miscorrection o info (reading (bit_xor w e) (number o) (alone o) limit) ≡ own_test 0x238 limit (rem e) (burst_length e)
third_is w info e limit o h inside few pos own =
    ap (λ (x : ℕ). is_miscorrection o info (reading (bit_xor w e) x (alone o) limit)) own
    ∙ own_is w info e limit o h inside few 3 (alone o) 0x238 (alone_wanted o own) (third_leaves w info e o h own) (third_takes w info e o h own) pos

either_is : (w info e limit : ℕ) (o : Offset) → IsBlockOf w info o → e < 2 ^ 26 → limit ≤ 5 → 0 < e → number o ≡ 3
    → is_miscorrection o info (reading (bit_xor w e) (number o) Either limit) ≡ either_test limit (rem e) (burst_length e)
unfolding by_pairs
either_is w info e limit C h inside few pos own =
    let v : ℕ = bit_xor w e in
    let c = fitting_is limit v C few (xor_lt 26 w e h.is_block inside) in
    let cx = fitting_is limit v Cx few (xor_lt 26 w e h.is_block inside) in
    both_is w info e limit C Cx h inside few pos (λ j d. refl) refl (third_leaves w info e C h refl) (third_makes w info e C h refl) (third_takes w info e C h refl)
    (λ none.
    ap (is_miscorrection C info) (reads_corrected v 3 Either limit none ∙ ap (by_only v) (corrections_two limit v C Cx c.0 cx.0 c.1.list cx.1.list))
    ∙ (pairs_are w info e limit C Cx h inside few pos (λ j d. refl) refl c.0 cx.0 c.1 cx.1).0)
either_is w info e limit Cx h inside few pos own =
    let v : ℕ = bit_xor w e in
    let c = fitting_is limit v C few (xor_lt 26 w e h.is_block inside) in
    let cx = fitting_is limit v Cx few (xor_lt 26 w e h.is_block inside) in
    both_is w info e limit Cx C h inside few pos (λ j d. refl) refl (third_leaves w info e Cx h refl) (third_makes w info e Cx h refl) (third_takes w info e Cx h refl)
    (λ none.
    ap (is_miscorrection Cx info) (reads_corrected v 3 Either limit none ∙ ap (by_only v) (corrections_two limit v C Cx c.0 cx.0 c.1.list cx.1.list))
    ∙ (pairs_are w info e limit Cx C h inside few pos (λ j d. refl) refl cx.0 c.0 cx.1 c.1).1)
either_is w info e limit A h inside few pos own = absurd (omega (arith, own))
either_is w info e limit B h inside few pos own = absurd (omega (arith, own))
either_is w info e limit D h inside few pos own = absurd (omega (arith, own))

-- ---- the counts

abbrev Test : Type 0
Test = ℕ → ℕ → Bool

-- the elements of two lists, added one by one
add : List ℕ → List ℕ → List ℕ
add [] ys = []
add (x ∷ xs) [] = []
add (x ∷ xs) (y ∷ ys) = (x + y) ∷ add xs ys

add-maps : (f g h : Test → ℕ) (ts : List Test) → ((t : Test) → f t + g t ≡ h t) → add (map f ts) (map g ts) ≡ map h ts
unfolding add
add-maps f g h [] each = refl
add-maps f g h (t ∷ ts) each = ap₂ (λ (x : ℕ) (xs : List ℕ). x ∷ xs) (each t) (add-maps f g h ts each)

same_maps : (f g : Test → ℕ) (ts : List Test) → ((t : Test) → f t ≡ g t) → map f ts ≡ map g ts
same_maps f g [] each = refl
same_maps f g (t ∷ ts) each = ap₂ (λ (x : ℕ) (xs : List ℕ). x ∷ xs) (each t) (same_maps f g ts each)

one_more : (p : ℕ → Bool) (e : ℕ) (es : List ℕ) → cond (p e) 1 0 + length (filter p es) ≡ length (filter p (e ∷ es))
one_more p e es = grind (arith, common_steps)

-- how many of the masks a test passes
passed : List ℕ → Test → ℕ
passed es t = length (filter (λ e. t (rem e) (burst_length e)) es)

-- The masks are not listed but walked, bit by bit from the highest on, with the sum of the remainders of their bits: no mask is divided.

-- each of the k lowest bits of a block, from the highest on, and its remainder
bits_below : ℕ → List (ℕ × ℕ)
bits_below zero = []
bits_below (suc k) = (2 ^ k, rem (2 ^ k)) ∷ bits_below k

-- a number computed once for all its uses
shared : ℕ → (ℕ → List ℕ) → List ℕ
shared zero f = f zero
shared (suc n) f = f (suc n)

shared_is : (n : ℕ) (f : ℕ → List ℕ) → shared n f ≡ f n
unfolding shared
shared_is zero f = refl
shared_is (suc n) f = refl

-- how many masks each test passes that have the bits of e, whose remainder is r, and n of these bits
walked : List Test → ℕ → List (ℕ × ℕ) → ℕ → ℕ → List ℕ
walked ts zero bits e r = shared r (λ q. shared (burst_length e) (λ n. map (λ (t : Test). cond (t q n) 1 0) ts))
walked ts (suc n) [] e r = map (λ (t : Test). 0) ts
walked ts (suc n) (bit ∷ bits) e r = add (walked ts (suc n) bits e r) (walked ts n bits (bit.0 + e) (bit_xor bit.1 r))

-- masks below bit k are added to e without a carry
NoCarry : ℕ → ℕ → Type 0
NoCarry k e = (d : ℕ) → d < 2 ^ k → rem (d + e) ≡ bit_xor (rem d) (rem e)

no_carry_below : (k e : ℕ) → NoCarry (suc k) e → NoCarry k e
unfolding NoCarry
no_carry_below k e above d small = above d (omega (arith, small, pow-suc 2 k))

no_carry_at : (k e : ℕ) → NoCarry (suc k) e → rem (2 ^ k + e) ≡ bit_xor (rem (2 ^ k)) (rem e)
unfolding NoCarry
no_carry_at k e above = above (2 ^ k) (omega (arith, pow-suc 2 k, pow_pos k))

no_carry_with : (k e : ℕ) → NoCarry (suc k) e → NoCarry k (2 ^ k + e)
unfolding NoCarry
no_carry_with k e above d small =
    let order : d + (2 ^ k + e) ≡ 2 ^ k + d + e = omega arith in
    let one : 2 ^ k + d ≡ 1 * 2 ^ k + d = omega arith in
    let bit : 1 * 2 ^ k ≡ 2 ^ k = omega arith in
    let parts : rem (2 ^ k + d) ≡ bit_xor (rem (2 ^ k)) (rem d) =
    ap rem (one ∙ sym (xor_shifted 1 k d small) ∙ ap (λ (n : ℕ). bit_xor n d) bit) ∙ rem-xor (2 ^ k) d in
    ap rem order
    ∙ above (2 ^ k + d) (omega (arith, small, pow-suc 2 k))
    ∙ ap (λ (n : ℕ). bit_xor n (rem e)) (parts ∙ xor_comm (rem (2 ^ k)) (rem d))
    ∙ xor_assoc (rem d) (rem (2 ^ k)) (rem e)
    ∙ ap (bit_xor (rem d)) (sym (no_carry_at k e above))

no_carry_zero : (k : ℕ) → NoCarry k 0
unfolding NoCarry
no_carry_zero k d small = grind (arith, common_steps, xor_zero_r, rem-short, lit<)

-- the masks of a list that pass, and of another whose masks are those of a third
split : (p : ℕ → Bool) (f g h : ℕ → ℕ) → ((d : ℕ) → f (g d) ≡ h d) → (xs ys : List ℕ)
    → length (filter p (map f xs)) + length (filter p (map h ys)) ≡ length (filter p (map f (xs ++ map g ys)))
split p f g h agree [] ys =
    let none : 0 + length (filter p (map h ys)) ≡ length (filter p (map h ys)) = omega arith in
    none ∙ ap (λ (zs : List ℕ). length (filter p zs)) (fused ys)
  where
    fused : (ys : List ℕ) → map h ys ≡ map f (map g ys)
    fused [] = refl
    fused (y ∷ ys) = ap₂ (λ (z : ℕ) (zs : List ℕ). z ∷ zs) (sym (agree y)) (fused ys)
split p f g h agree (x ∷ xs) ys = grind (arith, common_steps, one_more, split p f g h agree xs ys)

walked_are : (ts : List Test) (n k e r : ℕ) → NoCarry k e → r ≡ rem e
    → walked ts n (bits_below k) e r ≡ map (passed (map (λ d. e + d) (error_masks n k))) ts
unfolding walked passed bits_below
walked_are ts zero k e r above is = grind (arith, common_steps, same_maps, passed, one_more, shared_is, walked, bits_below)
walked_are ts (suc n) zero e r above is = refl
walked_are ts (suc n) (suc k) e r above is = grind (arith, common_steps, no_carry_at, add, no_carry_below, no_carry_with, add-maps, passed, split, walked, bits_below, walked_are ts (suc n) k e r (no_carry_below k e above) is, walked_are ts n k (2 ^ k + e) (bit_xor (rem (2 ^ k)) r) (no_carry_with k e above) (ap (bit_xor (rem (2 ^ k))) is ∙ sym (no_carry_at k e above)))

-- block 3 differs from the others only at limit 5
all_limits : List ℕ
all_limits = 0 ∷ 1 ∷ 2 ∷ 3 ∷ 4 ∷ 5 ∷ []

all_tests : List Test
unfolding all_limits
all_tests = map (own_test 0) all_limits ++ own_test 0x238 5 ∷ map either_test all_limits

-- a row of the others' table, the last count of block 3 if one offset is wanted, and its row if both are
all_row : ℕ → List ℕ
all_row k = get_or miscorrected k [] ++ get_or (get_or miscorrected_third k []) 5 0 ∷ get_or miscorrected_either k []

-- the bits of a block
block_bits : List (ℕ × ℕ)
block_bits =
    (0x2000000, 0x077) ∷ (0x1000000, 0x2E7) ∷ (0x0800000, 0x3AF) ∷ (0x0400000, 0x30B) ∷ (0x0200000, 0x359)
    ∷ (0x0100000, 0x370) ∷ (0x0080000, 0x1B8) ∷ (0x0040000, 0x0DC) ∷ (0x0020000, 0x06E) ∷ (0x0010000, 0x037)
    ∷ (0x0008000, 0x2C7) ∷ (0x0004000, 0x3BF) ∷ (0x0002000, 0x303) ∷ (0x0001000, 0x35D) ∷ (0x0000800, 0x372)
    ∷ (0x0000400, 0x1B9) ∷ (0x0000200, 0x200) ∷ (0x0000100, 0x100) ∷ (0x0000080, 0x080) ∷ (0x0000040, 0x040)
    ∷ (0x0000020, 0x020) ∷ (0x0000010, 0x010) ∷ (0x0000008, 0x008) ∷ (0x0000004, 0x004) ∷ (0x0000002, 0x002)
    ∷ (0x0000001, 0x001) ∷ []

bits_are : bits_below 26 ≡ block_bits
unfolding bits_below block_bits rem
bits_are = refl

Counted : ℕ → Type 0
Counted k = walked all_tests (2 + k) block_bits 0 0 ≡ all_row k

all_counted : EachBelow Counted 3
unfolding Counted all_row all_tests all_limits block_bits walked shared add own_test either_test one_of length_of lengths count_leading_zeros count_trailing_zeros
all_counted = (refl, (refl, (refl, tt)))

from_zero : (es : List ℕ) → map (λ d. 0 + d) es ≡ es
from_zero [] = refl
from_zero (e ∷ es) = ap₂ (λ (x : ℕ) (xs : List ℕ). x ∷ xs) (omega arith) (from_zero es)

-- how many masks each test passes
all_counts : (n : ℕ) → 2 ≤ n → n ≤ 4 → map (passed (error_masks n 26)) all_tests ≡ all_row (n - 2)
unfolding Counted
all_counts n least most =
    let errors : n ≡ 2 + (n - 2) = omega (arith, least) in
    ap (λ (es : List ℕ). map (passed es) all_tests) (sym (from_zero (error_masks n 26)))
    ∙ sym (walked_are all_tests n 26 0 0 (no_carry_zero 26) (sym (rem-short 0 (lit< tt))))
    ∙ ap (λ (bits : List (ℕ × ℕ)). walked all_tests n bits 0 0) bits_are
    ∙ ap (λ (m : ℕ). walked all_tests m block_bits 0 0) errors
    ∙ each_below Counted 3 all_counted (n - 2) (omega (arith, most))

-- the count of one test is its own of all of them
own_passed : (es : List ℕ) (limit : ℕ) → limit ≤ 5 → passed es (own_test 0 limit) ≡ get_or (map (passed es) all_tests) limit 0
unfolding all_tests all_limits
own_passed es limit few = grind (arith, common_steps, each_below, passed, own_test, all_tests)

third_passed : (es : List ℕ) → passed es (own_test 0x238 5) ≡ get_or (map (passed es) all_tests) 6 0
unfolding all_tests all_limits
third_passed es = refl

either_passed : (es : List ℕ) (limit : ℕ) → limit ≤ 5 → passed es (either_test limit) ≡ get_or (map (passed es) all_tests) (7 + limit) 0
unfolding all_tests all_limits
either_passed es limit few =
    each_below (λ l. passed es (either_test l) ≡ get_or (map (passed es) all_tests) (7 + l) 0) 6 (refl, (refl, (refl, (refl, (refl, (refl, tt)))))) limit (omega (arith, few))

-- up to four bits no burst takes block 3 over to the other version
other_far : (limit : ℕ) → limit ≤ 4 → is_near limit 0x238 ≡ false
unfolding length_of lengths
other_far limit few = each_below (λ l. is_near l 0x238 ≡ false) 5 (refl, (refl, (refl, (refl, (refl, tt))))) limit (omega (arith, few))

third_alike : (limit r n : ℕ) → limit ≤ 4 → own_test 0x238 limit r n ≡ own_test 0 limit r n
unfolding own_test
third_alike limit r n few = grind (arith, common_steps, eq-eqb, ne_eqb, other_far, near_zero, own_test)

Entries : ℕ → ℕ → Type 0
Entries k l = (get_or (all_row k) l 0 ≡ get_or (get_or miscorrected k []) l 0) × (get_or (all_row k) (7 + l) 0 ≡ get_or (get_or miscorrected_either k []) l 0)

entries : (k l : ℕ) → k ≤ 2 → l ≤ 5 → Entries k l
unfolding Entries all_row
entries k l few short = each_below (Entries k) 6 (each_below (λ i. EachBelow (Entries i) 6) 3 (((refl, refl), ((refl, refl), ((refl, refl), ((refl, refl), ((refl, refl), ((refl, refl), tt)))))), (((refl, refl), ((refl, refl), ((refl, refl), ((refl, refl), ((refl, refl), ((refl, refl), tt)))))), (((refl, refl), ((refl, refl), ((refl, refl), ((refl, refl), ((refl, refl), ((refl, refl), tt)))))), tt))) k (omega (arith, few))) l (omega (arith, short))

third_place : (k : ℕ) → k ≤ 2 → get_or (all_row k) 6 0 ≡ get_or (get_or miscorrected_third k []) 5 0
unfolding all_row
third_place k few = each_below (λ i. get_or (all_row i) 6 0 ≡ get_or (get_or miscorrected_third i []) 5 0) 3 (refl, (refl, (refl, tt))) k (omega (arith, few))

-- the rows agree below the last limit
rows_agree : (k limit : ℕ) → k ≤ 2 → limit ≤ 4 → get_or (get_or miscorrected k []) limit 0 ≡ get_or (get_or miscorrected_third k []) limit 0
rows_agree k limit few short = grind (arith, common_steps, each_below)

-- ---- the law

-- a mask with bit errors is not 0
mask_pos : (n e : ℕ) → 2 ≤ n → is_among e (error_masks n 26) ≡ true → 0 < e
mask_pos n e least listed = grind (arith, common_steps, masks_are, ones-le, lit<, is_among)

-- the masks that miscorrect a block are those that pass the test of its kind
by_test : (w info limit n : ℕ) (o : Offset) (wanted : Wanted) (t : Test) → IsBlockOf w info o → limit ≤ 5 → 2 ≤ n
    → ((e : ℕ) → e < 2 ^ 26 → 0 < e → is_miscorrection o info (reading (bit_xor w e) (number o) wanted limit) ≡ t (rem e) (burst_length e))
    → miscorrections w info o wanted limit n ≡ passed (error_masks n 26) t
unfolding passed
by_test w info limit n o wanted t h few least is = grind (arith, common_steps, filter_agree, masks_are, mask_pos, passed)

pub counts_all_miscorrections : CountsAllMiscorrections
unfolding Entries
counts_all_miscorrections w info o limit n h few least most = record {
  others = λ wanted apart.
      by_test w info limit n o wanted (own_test 0 limit) h few least (λ e inside pos. others_are w info e limit o wanted h inside few pos apart) ∙ own_at limit few;
  third = λ own. elim (cases_lt limit 5) [
    | inl less ↦
        by_test w info limit n o (alone o) (own_test 0 limit) h few least (λ e inside pos. third_is w info e limit o h inside few pos own ∙ third_alike limit (rem e) (burst_length e) (omega (arith, less)))
        ∙ own_at limit few
        ∙ rows_agree (n - 2) limit (omega (arith, most)) (omega (arith, less))
    | inr more ↦
        let five : limit ≡ 5 = omega (arith, more, few) in
        ap (λ (l : ℕ). miscorrections w info o (alone o) l n) five
        ∙ by_test w info 5 n o (alone o) (own_test 0x238 5) h (omega arith) least (λ e inside pos. third_is w info e 5 o h inside (omega arith) pos own)
        ∙ third_passed (error_masks n 26)
        ∙ ap (λ (xs : List ℕ). get_or xs 6 0) (all_counts n least most)
        ∙ third_place (n - 2) (omega (arith, most))
        ∙ ap (λ (l : ℕ). get_or (get_or miscorrected_third (n - 2) []) l 0) (sym five)
  ];
  either = λ own.
      by_test w info limit n o Either (either_test limit) h few least (λ e inside pos. either_is w info e limit o h inside few pos own)
      ∙ either_passed (error_masks n 26) limit few
      ∙ ap (λ (xs : List ℕ). get_or xs (7 + limit) 0) (all_counts n least most)
      ∙ (entries (n - 2) limit (omega (arith, most)) few).1;
}
  where
    own_at : (limit : ℕ) → limit ≤ 5 → passed (error_masks n 26) (own_test 0 limit) ≡ get_or (get_or miscorrected (n - 2) []) limit 0
    own_at limit few =
        own_passed (error_masks n 26) limit few ∙ ap (λ (xs : List ℕ). get_or xs limit 0) (all_counts n least most) ∙ (entries (n - 2) limit (omega (arith, most)) few).0
