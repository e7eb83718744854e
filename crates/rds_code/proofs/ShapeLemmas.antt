-- The shape and the shift of a burst of up to five bits.
use Rattle.rds_code.proofs.Names.{common_steps, ◌≡◌, ℕ, ◌+◌, ◌-◌, ◌*◌, ◌/◌, ◌^◌, Bool, true, refl, ap, ◌∙◌, arith, eqb, subst, mul-div_cancel, count_leading_zeros, count_trailing_zeros, eqb-true, pow_pos, IsBurst, burst_length}
use Rattle.rds_code.{specs.Inside.BurstShape.shape_of, specs.Inside.BurstShape.shift_of, specs.Inside.BurstShape.IsShape, proofs.Membership.all_below, proofs.Membership.passes_below, proofs.BurstLemmas.IsSmallPattern, proofs.BurstLemmas.small_pattern}

unshifted : (e m t : ℕ) → e ≡ m * 2 ^ t → e / 2 ^ t ≡ m
unshifted e m t whole = ap (λ (n : ℕ). n / 2 ^ t) whole ∙ mul-div_cancel m (pow_pos t)

-- a burst is its shape, an odd number of up to five places, shifted up
pub shape_is_pattern : (e : ℕ) → IsBurst 5 e → IsSmallPattern e (shape_of e) (shift_of e)
shape_is_pattern e h = grind (arith, common_steps, small_pattern, unshifted)

pub shape_kept : (e : ℕ) → IsBurst 5 e → IsShape (shape_of e) (shift_of e)
shape_kept e h = grind (arith, common_steps, shape_is_pattern)

-- a stored shape and its shift make such a pattern
kept_pattern : (m t : ℕ) → IsShape m t → IsSmallPattern (m * 2 ^ t) m t
kept_pattern m t h = grind (arith, common_steps, shape_is_pattern)

-- whether the shape m, shifted up by t, spans the length of m
spans : ℕ → ℕ → Bool
spans m t = eqb (burst_length (m * 2 ^ t)) (8 - count_leading_zeros 8 m)

all_span : all_below (λ half. all_below (spans (2 * half + 1)) 26) 16 ≡ true
unfolding spans count_leading_zeros count_trailing_zeros
all_span = refl

pub span_of_shape : (m t : ℕ) → IsShape m t → burst_length (m * 2 ^ t) ≡ 8 - count_leading_zeros 8 m
unfolding spans
span_of_shape m t h =
    let small = kept_pattern m t h in
    let half : 2 * (m / 2) + 1 ≡ m = omega (arith, small.odd) in
    let row = passes_below (λ n. all_below (spans (2 * n + 1)) 26) 16 (m / 2) all_span (omega (arith, small.few)) in
    let here = subst (λ (n : ℕ). spans n t ≡ true) half (passes_below (spans (2 * (m / 2) + 1)) 26 t row small.shift) in
    eqb-true (burst_length (m * 2 ^ t)) (8 - count_leading_zeros 8 m) here
