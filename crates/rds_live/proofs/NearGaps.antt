-- The gaps of a stream that are looked at for a part of it: those before them and those after them have no
-- place in the part.
use Rattle.rds_live.proofs.Names.{common_steps, ◌≡◌, ℕ, zero, suc, ◌+◌, ◌-◌, ◌<◌, ◌≤◌, List, [], ◌∷◌, drop, length, take, true, false, Option, None, leb, leb-true, ltb, refl, ap, ◌∙◌, arith, slice_index_or, filter_map, IsNonDecreasingBy, IsPartitionPoint, le-ltb, ltb-false, get_or-drop, length-drop, IsNonDecreasingBy-from_all_adjacent, AreGaps, gaps_within, part_of_gap}

-- the ends of gaps rise, and so do their beginnings
pub ends-rise : (top : ℕ) (gaps : List (ℕ × ℕ)) → AreGaps top gaps → IsNonDecreasingBy (λ (gap : ℕ × ℕ). gap.1) gaps
ends-rise top gaps are =
    IsNonDecreasingBy-from_all_adjacent (λ (gap : ℕ × ℕ). gap.1) gaps (λ k d l. omega (arith, are.apart k d l, are.each (k + 1) d l))

pub begins-rise : (top before first : ℕ) (gaps rest : List (ℕ × ℕ)) → AreGaps top gaps → rest ≡ drop first gaps → IsNonDecreasingBy (λ (gap : ℕ × ℕ). gap.0 - before) rest
begins-rise top before first gaps rest are is =
    IsNonDecreasingBy-from_all_adjacent (λ (gap : ℕ × ℕ). gap.0 - before) rest (λ k d l. rises k d l) where
      at_gap : (k : ℕ) (d : ℕ × ℕ) → slice_index_or rest k d ≡ slice_index_or gaps (first + k) d
      at_gap k d = ap (λ (gs : List (ℕ × ℕ)). slice_index_or gs k d) is ∙ get_or-drop first gaps k d

      rises : (k : ℕ) (d : ℕ × ℕ) → k + 1 < length rest → (slice_index_or rest k d).0 - before ≤ (slice_index_or rest (k + 1) d).0 - before
      rises k d l =
          let next : first + (k + 1) ≡ first + k + 1 = omega arith in
          let few : first + k + 1 < length gaps = omega (arith, l, ap length is, length-drop first gaps) in
          omega (
            arith,
            are.apart (first + k) d few,
            are.each (first + k) d (omega (arith, few)),
            ap (λ (gap : ℕ × ℕ). gap.0) (at_gap k d),
            ap (λ (gap : ℕ × ℕ). gap.0) (at_gap (k + 1) d ∙ ap (λ (n : ℕ). slice_index_or gaps n d) next),
          )

module _ {A : Type 0} (f : A → Option (ℕ × ℕ)) where
  -- the first ones give nothing
  pub skipped : (gaps : List A) (i : ℕ) → ((k : ℕ) (d : A) → k < i → f (slice_index_or gaps k d) ≡ None) → filter_map f (drop i gaps) ≡ filter_map f gaps
  skipped gaps zero none = refl
  skipped [] (suc i) none = refl
  skipped (gap ∷ gaps) (suc i) none = grind (arith, common_steps, none 0 gap, skipped gaps i (λ k d l. none (suc k) d (omega (arith, l))))

  -- and so do those from a number on
  pub ended : (gaps : List A) (n : ℕ) → ((k : ℕ) (d : A) → n ≤ k → k < length gaps → f (slice_index_or gaps k d) ≡ None) → filter_map f (take n gaps) ≡ filter_map f gaps
  ended [] n none = grind (arith, common_steps)
  ended (gap ∷ gaps) zero none = grind (arith, common_steps, none 0 gap, ended gaps zero (λ k d low high. none (suc k) d (omega arith) (omega (arith, high))))
  ended (gap ∷ gaps) (suc n) none = grind (arith, common_steps, ended gaps n (λ k d low high. none (suc k) d (omega (arith, low)) (omega (arith, high))))

module _ (before len : ℕ) where
  ends-before : (gap : ℕ × ℕ) → leb gap.1 before ≡ true → part_of_gap before len gap ≡ None
  ends-before gap e = grind (arith, common_steps, leb-true, le-ltb)

  begins-behind : (gap : ℕ × ℕ) → ltb (gap.0 - before) len ≡ false → part_of_gap before len gap ≡ None
  begins-behind gap e = grind (arith, common_steps, ltb-false, le-ltb, ltb)

  -- without them the part has the same gaps
  pub near-gaps : (gaps rest : List (ℕ × ℕ)) (first count : ℕ) → rest ≡ drop first gaps
      → IsPartitionPoint (λ (gap : ℕ × ℕ). leb gap.1 before ≡ true) (λ (gap : ℕ × ℕ). leb gap.1 before ≡ false) gaps first
      → IsPartitionPoint (λ (gap : ℕ × ℕ). ltb (gap.0 - before) len ≡ true) (λ (gap : ℕ × ℕ). ltb (gap.0 - before) len ≡ false) rest count
      → gaps_within (take count rest) before len ≡ gaps_within gaps before len
  near-gaps gaps rest first count is at_first at_count =
      ended (part_of_gap before len) rest count (λ k d low high. begins-behind (slice_index_or rest k d) (at_count.1 k d low high))
      ∙ ap (λ (gs : List (ℕ × ℕ)). gaps_within gs before len) is
      ∙ skipped (part_of_gap before len) gaps first (λ k d low. ends-before (slice_index_or gaps k d) (at_first.0 k d (omega arith) low))
