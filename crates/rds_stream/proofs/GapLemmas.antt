-- Gaps in order, and the windows that they touch.
use Rattle.std.proofs.{Common.ap₂, lemmas.List.Folds.list_any_at, lemmas.List.Folds.list_any_none}
use Rattle.rds_stream.proofs.Names.{common_steps, ◌≡◌, ℕ, ◌+◌, ◌-◌, ◌<◌, ◌≤◌, ◌⊎◌, ◌&&◌, sym, ap, subst, arith, List, length, get_or, ltb, true, false, Bool, inl, inr, cases_lt, le-leb, lt-leb, le-ltb, lt-ltb, HoldsAt, IsNonDecreasingBy, IsNonDecreasingBy-from_all_adjacent, AreGaps, Signal, touched, is_touched_by, AllEndBy, IsFirstAfter, IsSection}

and_false : (x : Bool) → (x && false) ≡ false
and_false x = grind (arith, common_steps)

-- the ends of gaps rise, and their beginnings do
pub ends_rise : (n : ℕ) (gaps : List (ℕ × ℕ)) → AreGaps n gaps → IsNonDecreasingBy (λ (gap : ℕ × ℕ). gap.1) gaps
ends_rise n gaps are = IsNonDecreasingBy-from_all_adjacent (λ (gap : ℕ × ℕ). gap.1) gaps
    (λ k d l. omega (arith, are.apart k d l, are.each (k + 1) d l))

pub begins_rise : (n : ℕ) (gaps : List (ℕ × ℕ)) → AreGaps n gaps → IsNonDecreasingBy (λ (gap : ℕ × ℕ). gap.0) gaps
begins_rise n gaps are = IsNonDecreasingBy-from_all_adjacent (λ (gap : ℕ × ℕ). gap.0) gaps
    (λ k d l. omega (arith, are.apart k d l, are.each k d (omega arith)))

-- a gap that has a place of the window touches it
pub touches_it : (b : Signal) (i k : ℕ) (gap : ℕ × ℕ) → k < length b.gaps → HoldsAt (λ g. g ≡ gap) b.gaps k → gap.0 ≤ i → i < gap.1 + 25 → 25 ≤ i
    → touched b i ≡ true
unfolding touched
touches_it b i k gap within is low high first =
    list_any_at (is_touched_by i) b.gaps k gap within
    (subst (λ (g : ℕ × ℕ). is_touched_by i g ≡ true) (sym (is gap)) (ap₂ (λ (x y : Bool). x && y) (le-leb gap.0 i low) (lt-ltb (i - 25) gap.1 (omega arith))))

-- a window of which each place lies outside all gaps
pub touches_none : (b : Signal) (i : ℕ) → ((k : ℕ) (d : ℕ × ℕ) → k < length b.gaps → ((get_or b.gaps k d).1 ≤ i - 25) ⊎ (i < (get_or b.gaps k d).0))
    → touched b i ≡ false
unfolding touched
touches_none b i outside = grind (arith, common_steps, list_any_none, le-ltb, and_false, ltb, lt-leb)

-- ---- the sections of a recording

module _ (b : Signal) (are : AreGaps (length b.bits) b.gaps) (place : ℕ) (first : 25 ≤ place) where
  -- up to the end of the gap that is the first to go past the window's first place, if it has begun
  pub touched_on : (gap : ℕ × ℕ) → IsFirstAfter b.gaps (place - 25) gap → gap.0 ≤ place → (to : ℕ) → to ≤ gap.1 + 25 → IsSection b place to true
  touched_on gap is begun to end i low high = touches_it b i is.index gap is.within is.is (omega arith) (omega arith) (omega arith)

  -- up to its beginning, if it has not
  pub clear_before : (gap : ℕ × ℕ) → IsFirstAfter b.gaps (place - 25) gap → IsSection b place gap.0 false
  clear_before gap is i low high =
      touches_none b i (λ k d within. elim (cases_lt k is.index) [
        | inl before ↦ inl (omega (arith, is.before k d (omega arith) before))
        | inr on ↦
            let rises = begins_rise (length b.bits) b.gaps are is.index k d on within in
            inr (omega (arith, rises, ap (λ (g : ℕ × ℕ). g.0) (is.is d)))
      ])

  -- up to the end, where all gaps are over
  pub clear_after : AllEndBy b.gaps (length b.gaps) (place - 25) → (to : ℕ) → IsSection b place to false
  clear_after over to i low high = touches_none b i (λ k d within. inl (omega (arith, over k d (omega arith) within)))
