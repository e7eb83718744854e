-- Gaps as C has them, and as a recording does.
use Rattle.rds_abi.proofs.Shared.{common_steps, ◌≡◌, ◌∙◌, ℕ, ◌+◌, ◌-◌, ◌<◌, ◌≤◌, List, [], ◌∷◌, true, false, None, ap, arith, drop, get_or, leb, leb-true, length, ltb, refl, sym, take, All, AllAdjacentBelow, filter_map, le-ltb, ltb-false, get_or-drop, get_or-map, get_or-take, length-map, length-take, IsNonDecreasingBy-from_all_adjacent, AreGaps, gaps_within, part_of_gap, gap_of, gaps_of, RdsGap, length-drop}
use Rattle.std.specs.List.Sorted.{IsNonDecreasingBy, IsPartitionPoint}
use Rattle.rds_live.proofs.NearGaps.{ended, skipped}

-- those of a part, gap by gap
pub parts-of-gaps : (d n : ℕ) (gaps : List RdsGap) → filter_map (λ (gap : RdsGap). part_of_gap d n (gap_of gap)) gaps ≡ gaps_within (gaps_of gaps) d n
parts-of-gaps d n [] = refl
parts-of-gaps d n (gap ∷ gaps) = grind (arith, common_steps, parts-of-gaps d n gaps)

-- ---- whether a recording may have them

abbrev pub Lies : ℕ → RdsGap → Type 0
Lies n gap = (gap.begin < gap.end) × (gap.end ≤ n)

abbrev pub AreApart : RdsGap → RdsGap → Type 0
AreApart gap next = gap.end ≤ next.begin

none : RdsGap
none = record { begin = 0; end = 0 }

begins : (gaps : List RdsGap) (k : ℕ) (d : ℕ × ℕ) (e : RdsGap) → k < length gaps → (get_or (gaps_of gaps) k d).0 ≡ (get_or gaps k e).begin
begins gaps k d e h = ap (λ (gap : ℕ × ℕ). gap.0) (get_or-map gap_of gaps k e d h)

ends : (gaps : List RdsGap) (k : ℕ) (d : ℕ × ℕ) (e : RdsGap) → k < length gaps → (get_or (gaps_of gaps) k d).1 ≡ (get_or gaps k e).end
ends gaps k d e h = ap (λ (gap : ℕ × ℕ). gap.1) (get_or-map gap_of gaps k e d h)

pub are-gaps : (n : ℕ) (gaps : List RdsGap) → All (Lies n) gaps → AllAdjacentBelow AreApart gaps (length gaps) → AreGaps n (gaps_of gaps)
are-gaps n gaps each apart = record {
  each = λ k d h. grind (arith, common_steps, length-map, each k none, begins gaps k d none, ends gaps k d none);
  apart = λ k d h. grind (arith, common_steps, length-map, apart k none, ends gaps k d none, begins gaps (k + 1) d none);
}

pub gaps-lie : (n : ℕ) (gaps : List RdsGap) → AreGaps n (gaps_of gaps) → All (Lies n) gaps
gaps-lie n gaps are k e h = grind (arith, common_steps, length-map, are.each k (gap_of e), begins gaps k (gap_of e) e, ends gaps k (gap_of e) e)

pub gaps-apart : (n : ℕ) (gaps : List RdsGap) → AreGaps n (gaps_of gaps) → AllAdjacentBelow AreApart gaps (length gaps)
gaps-apart n gaps are k e h = grind (arith, common_steps, length-map, are.apart k (gap_of e), ends gaps k (gap_of e) e, begins gaps (k + 1) (gap_of e) e)

-- ---- the gaps near a part

at_gap : (f count : ℕ) (gaps : List RdsGap) (k : ℕ) (e : RdsGap) → k < length (take count (drop f gaps)) → get_or (take count (drop f gaps)) k e ≡ get_or gaps (f + k) e
at_gap f count gaps k e h = grind (arith, common_steps, length-take, get_or-take, get_or-drop)

-- gaps in a row of gaps that a recording may have are some that it may have
pub some-gaps : (n f count : ℕ) (gaps : List RdsGap) → AreGaps n (gaps_of gaps) → AreGaps n (gaps_of (take count (drop f gaps)))
some-gaps n f count gaps are =
    are-gaps n (take count (drop f gaps)) (λ k e h. grind (arith, common_steps, length-take, length-drop, gaps-lie n gaps are (f + k) e, at_gap f count gaps k e))
    (λ k e h. grind (arith, common_steps, length-take, length-drop, gaps-apart n gaps are (f + k) e, at_gap f count gaps k e, at_gap f count gaps (k + 1) e))

-- the ends of gaps rise, and so do their beginnings
pub ends-rise : (n : ℕ) (gaps : List RdsGap) → AreGaps n (gaps_of gaps) → IsNonDecreasingBy (λ (gap : RdsGap). gap.end) gaps
ends-rise n gaps are = IsNonDecreasingBy-from_all_adjacent (λ (gap : RdsGap). gap.end) gaps (λ k e h. grind (arith, common_steps, gaps-apart n gaps are, gaps-lie n gaps are))

pub begins-rise : (n before : ℕ) (gaps : List RdsGap) → AreGaps n (gaps_of gaps) → IsNonDecreasingBy (λ (gap : RdsGap). gap.begin - before) gaps
begins-rise n before gaps are = IsNonDecreasingBy-from_all_adjacent (λ (gap : RdsGap). gap.begin - before) gaps (λ k e h. grind (arith, common_steps, gaps-apart n gaps are, gaps-lie n gaps are))

module _ (before len n : ℕ) (few : n ≤ len) where
  none-before : (gap : RdsGap) → leb gap.end before ≡ true → part_of_gap before n (gap_of gap) ≡ None
  none-before gap e = grind (arith, common_steps, leb-true gap.end before, le-ltb)

  none-behind : (gap : RdsGap) → ltb (gap.begin - before) len ≡ false → part_of_gap before n (gap_of gap) ≡ None
  none-behind gap e = grind (arith, common_steps, ltb-false (gap.begin - before) len, le-ltb)

  -- without the gaps before and after it the part has the same
  pub near-same : (gaps rest : List RdsGap) (first count : ℕ) → rest ≡ drop first gaps
      → IsPartitionPoint (λ (gap : RdsGap). leb gap.end before ≡ true) (λ (gap : RdsGap). leb gap.end before ≡ false) gaps first
      → IsPartitionPoint (λ (gap : RdsGap). ltb (gap.begin - before) len ≡ true) (λ (gap : RdsGap). ltb (gap.begin - before) len ≡ false) rest count
      → gaps_within (gaps_of (take count rest)) before n ≡ gaps_within (gaps_of gaps) before n
  near-same gaps rest first count is at_first at_count =
      sym (parts-of-gaps before n (take count rest))
      ∙ ended (λ (gap : RdsGap). part_of_gap before n (gap_of gap)) rest count (λ k e low high. none-behind (get_or rest k e) (at_count.1 k e low high))
      ∙ ap (λ (gs : List RdsGap). filter_map (λ (gap : RdsGap). part_of_gap before n (gap_of gap)) gs) is
      ∙ skipped (λ (gap : RdsGap). part_of_gap before n (gap_of gap)) gaps first (λ k e low. none-before (get_or gaps k e) (at_first.0 k e (omega arith) low))
      ∙ parts-of-gaps before n gaps
