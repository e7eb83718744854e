-- Whether gaps may be a recording's, by tests from one to the next and by the list as a whole.
use Rattle.rds_tool.proofs.Names.{common_steps, ◌+◌, ◌<◌, ◌≤◌, ◌∷◌, ◌≡◌, ℕ, List, [], arith, length, refl, subst, suc, true, zero, All, AllAdjacentBelow, slice_index_or, le-leb, leb-true, lt-ltb, ltb-true, All-cons, All-head, All-nil, All-tail, AreGaps, may_be_gaps}
use Rattle.rds_tool.proofs.Cuttings.{and_both, both_and}

abbrev Lies : ℕ → ℕ × ℕ → Type 0
Lies n gap = (gap.0 < gap.1) × (gap.1 ≤ n)

abbrev Apart : List (ℕ × ℕ) → Type 0
Apart gaps = AllAdjacentBelow (λ gap next. gap.1 ≤ next.0) gaps (length gaps)

-- the four tests of a gap
record IsNext (low : ℕ) (gap : ℕ × ℕ) (gaps : List (ℕ × ℕ)) (n : ℕ) : Type 0 where
  after : low ≤ gap.0
  some : gap.0 < gap.1
  within : gap.1 ≤ n
  rest : may_be_gaps gap.1 gaps n ≡ true

tests : (low : ℕ) (gap : ℕ × ℕ) (gaps : List (ℕ × ℕ)) (n : ℕ) → may_be_gaps low (gap ∷ gaps) n ≡ true → IsNext low gap gaps n
tests low gap gaps n h = grind (arith, common_steps, and_both, leb-true, ltb-true)

each : (low : ℕ) (gaps : List (ℕ × ℕ)) (n : ℕ) → may_be_gaps low gaps n ≡ true → All (Lies n) gaps
each low [] n h = All-nil (Lies n)
each low (gap ∷ gaps) n h = let t = tests low gap gaps n h in All-cons (Lies n) gap gaps (t.some, t.within) (each gap.1 gaps n t.rest)

apart : (low : ℕ) (gaps : List (ℕ × ℕ)) (n : ℕ) → may_be_gaps low gaps n ≡ true → Apart gaps
apart low [] n h k d l = absurd (omega arith)
apart low (gap ∷ []) n h k d l = absurd (omega arith)
apart low (gap ∷ next ∷ gaps) n h zero d l = grind (arith, common_steps, tests)
apart low (gap ∷ next ∷ gaps) n h (suc k) d l = grind (arith, common_steps, tests, slice_index_or, apart gap.1 (next ∷ gaps) n)

after_first : (gap : ℕ × ℕ) (gaps : List (ℕ × ℕ)) → Apart (gap ∷ gaps) → Apart gaps
after_first gap gaps h k d l =
    let e : suc k + 1 ≡ suc (k + 1) = omega arith in
    subst (λ (m : ℕ). (slice_index_or gaps k d).1 ≤ (slice_index_or (gap ∷ gaps) m d).0) e (h (suc k) d (omega arith))

pass : (low : ℕ) (gaps : List (ℕ × ℕ)) (n : ℕ) → All (Lies n) gaps → Apart gaps
    → ((d : ℕ × ℕ) → 0 < length gaps → low ≤ (slice_index_or gaps 0 d).0) → may_be_gaps low gaps n ≡ true
pass low [] n all between first = refl
pass low (gap ∷ gaps) n all between first =
    let lies = All-head (Lies n) gap gaps all in
    let rest = pass gap.1 gaps n (All-tail (Lies n) gap gaps all) (after_first gap gaps between) (λ d l. between 0 d (omega arith)) in
    both_and _ _ (both_and _ _ (both_and _ _ (le-leb low gap.0 (first gap (omega arith))) (lt-ltb gap.0 gap.1 lies.0)) (le-leb gap.1 n lies.1)) rest

pub are_gaps : (gaps : List (ℕ × ℕ)) (n : ℕ) → may_be_gaps 0 gaps n ≡ true → AreGaps n gaps
are_gaps gaps n h = record { each = each 0 gaps n h; apart = apart 0 gaps n h }

pub pass_as_gaps : (gaps : List (ℕ × ℕ)) (n : ℕ) → AreGaps n gaps → may_be_gaps 0 gaps n ≡ true
pass_as_gaps gaps n are = pass 0 gaps n are.each are.apart (λ d l. omega arith)
