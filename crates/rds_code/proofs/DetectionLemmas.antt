-- One or two bit errors, and bursts of up to ten bits, leave a remainder that is not 0; and how many words are corrected. The remainders are
-- checked by computation, pattern by pattern.
use Rattle.rds_code.proofs.Names.{common_steps, ◌≡◌, ◌≢◌, ℕ, ◌+◌, ◌*◌, ◌/◌, ◌%◌, ◌^◌, ◌<◌, ◌≤◌, List, [], ◌∷◌, length, get_or, Bool, true, false, cond, refl, sym, ap, ◌∙◌, arith, inl, inr, ltb, eqb, subst, pow_mono, bit_xor, lit<, ◌⊎◌, mul-suc, AllPairs, count_trailing_zeros, ones, ones_step, ones-le, xor_assoc, xor_self, xor_zero_r, xor_lt, pow_pos, cases_eq, cases_lt, lt-ltb, eq-eqb, Offset, rem, word, number, burst_length, IsBurst, bursts, information, IsReading, wanted_offsets, corrections, by_only, alone, DetectsBitErrors, DetectsErrorBursts, HasOneWordPerRemainder, CountsAllCorrected, remainders_near, burst_counts}
use Rattle.rds_code.proofs.{ReadingLemmas.one_fits, ReadingLemmas.corrections_one, ReadingLemmas.reads_corrected, ReadingLemmas.reading_is, ReadingLemmas.only_A, ReadingLemmas.only_B, ReadingLemmas.only_D, ReadingLemmas.third, Membership.is_among, Membership.all_below, Membership.passes_below, Membership.each_below, Membership.among_map, Membership.among_contains, Membership.contains_among, Membership.from_map, Membership.differ_map, Membership.differ_pairs, RemainderLemmas.rem-xor, RemainderLemmas.rem-lt, RemainderLemmas.twice, SpanLemmas.pattern_of, SpanLemmas.burst_pattern, SpanLemmas.at_least, SpanLemmas.ones-pattern, CorrectionLemmas.became, BurstLemmas.burst_is_one, BurstLemmas.longer, BurstLemmas.limit_is_among, BurstLemmas.among_limit_is, BurstLemmas.bursts_differ, EncodingLemmas.rem-parts}

-- whether the pattern, shifted up, is past a block or has another remainder than this
shows : ℕ → ℕ → ℕ → Bool
shows r m t = cond (ltb (m * 2 ^ t) (2 ^ 26)) (cond (eqb (rem (m * 2 ^ t)) r) false true) true

-- words of one bit or two have another remainder than r
FewShow : ℕ → Type 0
FewShow r = (all_below (λ s. all_below (shows r (1 + 2 * 2 ^ s)) 26) 26 ≡ true) × (all_below (shows r 1) 26 ≡ true)

-- 0x238 is the sum of C and C'
few_show : FewShow 0 × FewShow 0x238
unfolding FewShow shows rem
few_show = ((refl, refl), (refl, refl))

all_patterns_show : all_below (λ half. all_below (shows 0 (2 * half + 1)) 26) 512 ≡ true
unfolding shows rem
all_patterns_show = refl

shown : (r m t : ℕ) → m * 2 ^ t < 2 ^ 26 → shows r m t ≡ true → rem (m * 2 ^ t) ≢ r
unfolding shows
shown r m t block h none =
    let inside : cond (eqb (rem (m * 2 ^ t)) r) false true ≡ true = sym (ap (λ (b : Bool). cond b (cond (eqb (rem (m * 2 ^ t)) r) false true) true) (lt-ltb (m * 2 ^ t) (2 ^ 26) block)) ∙ h in
    let no : false ≡ true = sym (ap (λ (b : Bool). cond b false true) (eq-eqb (rem (m * 2 ^ t)) r none)) ∙ inside in
    cc no

shift_below : (m t : ℕ) → m % 2 ≡ 1 → m * 2 ^ t < 2 ^ 26 → t < 26
shift_below m t odd block = elim (cases_lt t 26) [ inl less ↦ less | inr more ↦ absurd (omega (arith, block, at_least m (2 ^ t) odd, pow_mono {i = 26} {j = t} more)) ]

some_ones : (n : ℕ) → 0 < n → n < 2 ^ 26 → 1 ≤ ones n
some_ones n pos small =
    let part = pattern_of n pos (omega (arith, small)) in
    omega (arith, ap ones part.1.whole, ones-pattern part.0 (count_trailing_zeros 32 n), ones_step part.0, part.1.odd)

pattern_least : (n s : ℕ) → n ≤ n * 2 ^ s
pattern_least n s = grind (arith, common_steps, pow_pos, mul-suc)

-- an odd number with one bit or two is 1, or 1 and one bit more
odd_few : (m : ℕ) → m % 2 ≡ 1 → m < 2 ^ 26 → ones m ≤ 2 → m / 2 ≢ 0 → (s : ℕ) × (s < 26) × (m ≡ 1 + 2 * 2 ^ s)
odd_few m odd small few more =
    let half : ℕ = m / 2 in
    let part = pattern_of half (omega (arith, more)) (omega (arith, small)) in
    let n : ℕ = part.0 in
    let s : ℕ = count_trailing_zeros 32 half in
    let upper : ones half ≤ 1 = omega (arith, few, ones_step m, odd) in
    let same : ones half ≡ ones n = ap ones part.1.whole ∙ ones-pattern n s in
    let at_most : n ≤ half = omega (arith, part.1.whole, pattern_least n s) in
    let none : ones (n / 2) ≡ 0 = omega (arith, upper, same, ones_step n, part.1.odd) in
    let one : n ≡ 1 = elim (cases_eq (n / 2) 0) [
      | inl same ↦ omega (arith, same, part.1.odd)
      | inr other ↦ absurd (omega (arith, none, some_ones (n / 2) (omega (arith, other)) (omega (arith, at_most, small))))
    ] in
    let whole : half ≡ 1 * 2 ^ s = part.1.whole ∙ ap (λ (k : ℕ). k * 2 ^ s) one in
    (s, shift_below 1 s refl (omega (arith, whole, small)), omega (arith, whole, odd))

-- a word of one bit or two has another remainder than r, if those of one bit and of two do
few_bits : (r : ℕ) → FewShow r → (e : ℕ) → e < 2 ^ 26 → 1 ≤ ones e → ones e ≤ 2 → rem e ≢ r
unfolding FewShow
few_bits r h e block some few same_rem = elim (cases_eq e 0) [
  | inl none ↦ absurd (omega (arith, some, ap ones none, ones-le 0 0 (lit< tt)))
  | inr pos ↦
      let part = pattern_of e (omega (arith, pos)) (omega (arith, block)) in
      let m : ℕ = part.0 in
      let t : ℕ = count_trailing_zeros 32 e in
      let small : m * 2 ^ t < 2 ^ 26 = omega (arith, part.1.whole, block) in
      let shift : t < 26 = shift_below m t part.1.odd small in
      let same : ones m ≡ ones e = sym (ones-pattern m t) ∙ sym (ap ones part.1.whole) in
      let gone : rem (m * 2 ^ t) ≡ r = sym (ap rem part.1.whole) ∙ same_rem in
      elim (cases_eq (m / 2) 0) [
        | inl one ↦
            let is : m ≡ 1 = omega (arith, one, part.1.odd) in
            shown r m t small (subst (λ (n : ℕ). shows r n t ≡ true) (sym is) (passes_below (shows r 1) 26 t h.1 shift)) gone
        | inr two ↦
            let below : m < 2 ^ 26 = omega (arith, small, pattern_least m t) in
            let bits = odd_few m part.1.odd below (omega (arith, same, few)) two in
            let row = passes_below (λ s. all_below (shows r (1 + 2 * 2 ^ s)) 26) 26 bits.0 h.0 bits.1 in
            shown r m t small (subst (λ (n : ℕ). shows r n t ≡ true) {x = 1 + 2 * 2 ^ bits.0} (sym {b = 1 + 2 * 2 ^ bits.0} bits.2) (passes_below (shows r (1 + 2 * 2 ^ bits.0)) 26 t row shift)) gone
      ]
]

pub long_burst_shows : (e : ℕ) → IsBurst 10 e → rem e ≢ 0
long_burst_shows e h none =
    let part = burst_pattern 10 e h in
    let m : ℕ = part.0 in
    let t : ℕ = count_trailing_zeros 32 e in
    let small : m * 2 ^ t < 2 ^ 26 = omega (arith, part.1.whole, h.is_block) in
    let few : m < 2 ^ 10 = omega (arith, part.1.within, pow_mono {i = burst_length e} {j = 10} h.short) in
    let half : 2 * (m / 2) + 1 ≡ m = omega (arith, part.1.odd) in
    let row = passes_below (λ n. all_below (shows 0 (2 * n + 1)) 26) 512 (m / 2) all_patterns_show (omega (arith, few)) in
    let here = subst (λ (n : ℕ). shows 0 n t ≡ true) half (passes_below (shows 0 (2 * (m / 2) + 1)) 26 t row (shift_below m t part.1.odd small)) in
    shown 0 m t small here (sym (ap rem part.1.whole) ∙ none)

pub detects_long_bursts : DetectsErrorBursts 10
detects_long_bursts w info o e h burst valid = long_burst_shows e burst (became w info e (number o) o o h valid ∙ xor_self (word o))

-- two offsets of one number are one, or C and C'
one_number : (o p : Offset) → number p ≡ number o → (bit_xor (word o) (word p) ≡ 0) ⊎ (bit_xor (word o) (word p) ≡ 0x238)
one_number o p own = grind (arith, common_steps, only_A, only_B, only_D, third)

pub detects_two_bits : DetectsBitErrors 2
detects_two_bits w info o p e h block some few valid =
    let left = became w info e (number o) o p h valid in
    elim (one_number o p valid.own) [
      | inl own ↦ few_bits 0 few_show.0 e block some few (left ∙ own)
      | inr other ↦ few_bits 0x238 few_show.1 e block some few (left ∙ other)
    ]

-- ---- how many words are corrected

pub shares_remainders : HasOneWordPerRemainder
shares_remainders info r upper small =
    let low : ℕ = bit_xor (rem (info * 2 ^ 10)) r in
    let ten : low < 2 ^ 10 = xor_lt 10 (rem (info * 2 ^ 10)) r (rem-lt (info * 2 ^ 10) (omega (arith, upper))) small in (
      info * 2 ^ 10 + low,
      omega (arith, upper, ten),
      omega (arith, ten),
      rem-parts info low ten ∙ twice (rem (info * 2 ^ 10)) r,
      λ v above is.
          let split : v ≡ info * 2 ^ 10 + v % 2 ^ 10 = omega (arith, above) in
          let checked : bit_xor (rem (info * 2 ^ 10)) (v % 2 ^ 10) ≡ r = sym (rem-parts info (v % 2 ^ 10) (omega arith)) ∙ ap rem (sym split) ∙ is in
          let checkword : v % 2 ^ 10 ≡ low = sym (twice (rem (info * 2 ^ 10)) (v % 2 ^ 10)) ∙ ap (bit_xor (rem (info * 2 ^ 10))) checked in
          split ∙ ap (λ (n : ℕ). info * 2 ^ 10 + n) checkword,
    )

near_distinct : (o : Offset) (limit : ℕ) → limit ≤ 5 → AllPairs (λ (r s : ℕ). r ≢ s) (remainders_near o limit)
near_distinct o limit few = differ_pairs (remainders_near o limit) (differ_map (λ e. bit_xor (word o) (rem e)) (bursts limit) (bursts_differ limit few)
    (λ x y hx hy same. burst_is_one x y (longer limit x few (among_limit_is limit x few hx)) (longer limit y few (among_limit_is limit y few hy))
    (sym (twice (word o) (rem x)) ∙ ap (bit_xor (word o)) same ∙ twice (word o) (rem y))))

near_many : (o : Offset) (limit : ℕ) → limit ≤ 5 → length (remainders_near o limit) ≡ get_or burst_counts limit 0
near_many o limit few = each_below (λ l. length (remainders_near o l) ≡ get_or burst_counts l 0) 6 (refl, (refl, (refl, (refl, (refl, (refl, tt)))))) limit (omega (arith, few))

wanted_alone : (o : Offset) → (wanted_offsets (number o) (alone o) ≡ o ∷ []) × (1 ≤ number o) × (number o ≤ 4)
wanted_alone o = grind (arith, common_steps)

-- a burst that turns w into a block of offset o is the sum of the two remainders
near : (w e : ℕ) (o : Offset) → rem (bit_xor w e) ≡ word o → rem w ≡ bit_xor (word o) (rem e)
near w e o fits = grind (arith, common_steps, xor_zero_r, rem-xor)

pub corrects_shares : CountsAllCorrected
corrects_shares o limit few = record {
  exactly = λ w. (
    λ found.
        let info : ℕ = found.0 in
        let e : ℕ = found.1 in
        let wanted = wanted_alone o in
        let rule = subst (IsReading w (number o) (alone o) limit) found.2 (reading_is w (number o) (alone o) limit wanted.1 wanted.2 few) in
        let fit = rule.1.fits in (
          among_contains (rem w) (remainders_near o limit) (ap (λ (n : ℕ). is_among n (remainders_near o limit)) (near w e o fit.fits)
              ∙ among_map (λ d. bit_xor (word o) (rem d)) e (bursts limit) (limit_is_among limit e few fit.burst)),
          rule.0,
        ),
    λ near_and.
        let from = from_map (λ d. bit_xor (word o) (rem d)) (rem w) (bursts limit) (contains_among (rem w) (remainders_near o limit) near_and.0) in
        let e : ℕ = from.0 in
        let fits : rem (bit_xor w e) ≡ word o = rem-xor w e ∙ ap (λ (n : ℕ). bit_xor n (rem e)) (sym from.2) ∙ xor_assoc (word o) (rem e) (rem e) ∙ ap (bit_xor (word o)) (xor_self (rem e)) ∙ xor_zero_r (word o) in (
          information (bit_xor w e),
          e,
          reads_corrected w (number o) (alone o) limit near_and.1
              ∙ ap (λ (os : List Offset). by_only w (corrections os limit w)) (wanted_alone o).0
              ∙ ap (by_only w) (corrections_one limit w o e (one_fits limit w o e few (among_limit_is limit e few from.1) fits)),
        ),
  );
  distinct = near_distinct o limit few;
  many = near_many o limit few;
}
