-- A burst is an odd pattern, shifted: its lowest one is at the shift, and the pattern is as long as the span.
use Rattle.rds_code.proofs.Names.{common_steps, ◌≡◌, ℕ, zero, suc, ◌+◌, ◌*◌, ◌/◌, ◌%◌, ◌^◌, ◌<◌, ◌≤◌, sym, ap, ◌∙◌, arith, inl, inr, pow-add, pow_mono, lit<, pow-suc, suc-mul, mul_assoc, mul-le-mul_right, count_trailing_zeros, under, leading_top, ones, ones_step, ones_cat, ones-le, pow_pos, cases_eq, cases_lt, burst_length, IsBurst}

-- n is an odd number, shifted up by t
pub record IsShifted (n m t : ℕ) : Type 0 where
  pub whole : n ≡ m * 2 ^ t
  pub odd : m % 2 ≡ 1

pub at_least : (m x : ℕ) → m % 2 ≡ 1 → x ≤ m * x
at_least m x odd = grind (arith, common_steps, suc-mul)

below : (m l x : ℕ) → m * x < l * x → m < l
below m l x h = elim (cases_lt m l) [ inl less ↦ less | inr more ↦ absurd (omega (arith, h, mul-le-mul_right x more)) ]

twice_shifted : (n m t : ℕ) → n % 2 ≡ 0 → n / 2 ≡ m * 2 ^ t → n ≡ m * 2 ^ suc t
twice_shifted n m t even half = omega (arith, ap (λ (x : ℕ). m * x) (pow-suc 2 t), mul_assoc m (2 ^ t) 2)

trailing_next : (k n d : ℕ) → n % 2 ≡ d → count_trailing_zeros (suc k) n ≡ under d (count_trailing_zeros k (n / 2))
unfolding count_trailing_zeros
trailing_next k n d e = ap (λ (x : ℕ). under x (count_trailing_zeros k (n / 2))) e

-- the zeros below the lowest one
pub shifted_by_trailing : (k n : ℕ) → 0 < n → n < 2 ^ k → (m : ℕ) × IsShifted n m (count_trailing_zeros k n)
shifted_by_trailing zero n pos small = absurd (omega arith)
shifted_by_trailing (suc k) n pos small = elim (cases_eq (n % 2) 0) [
  | inl even ↦
      let half = shifted_by_trailing k (n / 2) (omega arith) (omega (arith, pow-suc 2 k)) in
      let t : ℕ = count_trailing_zeros k (n / 2) in
      (half.0, record { whole = twice_shifted n half.0 t even half.1.whole ∙ ap (λ (x : ℕ). half.0 * 2 ^ x) (sym (trailing_next k n 0 even)); odd = half.1.odd })
  | inr other ↦
      let one : n % 2 ≡ 1 = omega arith in
      (n, record { whole = omega arith ∙ ap (λ (x : ℕ). n * 2 ^ x) (sym (trailing_next k n 1 one)); odd = one })
]

-- e is an odd pattern m, shifted up by t, and no longer than the span of e
pub record HasPattern (e m t : ℕ) : Type 0 where
  pub whole : e ≡ m * 2 ^ t
  pub odd : m % 2 ≡ 1
  pub within : m < 2 ^ burst_length e

pub pattern_of : (e : ℕ) → 0 < e → e < 2 ^ 32 → (m : ℕ) × HasPattern e m (count_trailing_zeros 32 e)
pattern_of e pos small =
    let low = shifted_by_trailing 32 e pos small in
    let top = leading_top 32 e pos small in
    let m : ℕ = low.0 in
    let t : ℕ = count_trailing_zeros 32 e in
    let j : ℕ = top.0 in
    let least : 2 ^ t ≤ e = omega (arith, low.1.whole, at_least m (2 ^ t) low.1.odd) in
    let order : t < suc j = elim (cases_lt t (suc j)) [ inl h ↦ h | inr h ↦ absurd (omega (arith, least, top.3, pow_mono {i = suc j} {j = t} h)) ] in
    let long : burst_length e + t ≡ suc j = omega (arith, top.1) in
    let grown : 2 ^ suc j ≡ 2 ^ burst_length e * 2 ^ t = ap (λ (x : ℕ). 2 ^ x) (sym long) ∙ pow-add 2 (burst_length e) t in (
      m,
      record {
        whole = low.1.whole;
        odd = low.1.odd;
        within = below m (2 ^ burst_length e) (2 ^ t) (omega (arith, low.1.whole, top.3, grown));
      },
    )

pub ones-pattern : (m t : ℕ) → ones (m * 2 ^ t) ≡ ones m
ones-pattern m t =
    let none : m * 2 ^ t + 0 ≡ m * 2 ^ t = omega arith in
    ap ones (sym none) ∙ ones_cat t m 0 (pow_pos t) ∙ omega (arith, ones-le 0 0 (lit< tt))

-- the pattern of a burst
pub burst_pattern : (limit e : ℕ) → IsBurst limit e → (m : ℕ) × HasPattern e m (count_trailing_zeros 32 e)
burst_pattern limit e h = pattern_of e h.not_zero (omega (arith, h.is_block))

-- a burst inverts as many bits as it spans, at most, and at least one
pub ones_pos : (limit e : ℕ) → IsBurst limit e → 1 ≤ ones e
ones_pos limit e h =
    let part = burst_pattern limit e h in
    omega (arith, ap ones part.1.whole, ones-pattern part.0 (count_trailing_zeros 32 e), ones_step part.0, part.1.odd)

pub ones-le_span : (limit e : ℕ) → IsBurst limit e → ones e ≤ burst_length e
ones-le_span limit e h =
    let part = burst_pattern limit e h in
    omega (arith, ap ones part.1.whole, ones-pattern part.0 (count_trailing_zeros 32 e), ones-le (burst_length e) part.0 part.1.within)
