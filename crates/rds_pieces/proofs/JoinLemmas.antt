-- Two runs that follow each other are the run of both ranges.
use Rattle.rds_pieces.proofs.Names.{◌≡◌, ℕ, ◌-◌, ◌^◌, ◌≤◌, List, ◌++◌, refl, sym, ap, ap₂, ◌∙◌, subst, arith, Signal, length_of, Item, State, Searching, Totals, FitTogether, plus, ItemsOf, listed, IsInRange, RuleNumbers, run, totals_of, guess, IsKept, RunLaws, run_over}
use Rattle.rds_pieces.proofs.SmallTotals.{totals_of_two}

module _ (laws : RunLaws) (b : Signal) (rules : RuleNumbers) (range : IsInRange rules) (from middle to : ℕ) (low : from ≤ middle) (high : middle ≤ to) (inside : to ≤ length_of b) (few : length_of b ≤ 2 ^ 36) where
  abbrev first : State × List Item
  first = guess b rules from (middle - from)

  abbrev next : State → State × List Item
  next s = run b rules s middle (to - middle)

  pub joined_fit : (s : State) (t u : Totals) → t ≡ totals_of first.1 → u ≡ totals_of (next s).1 → FitTogether t u
  joined_fit s t u t_is u_is =
      totals_of_two b rules laws.readings range.burst laws.totals Searching s from (middle - from) middle (to - middle) (omega (arith, low, high, inside, few)) t u t_is u_is

  pub joined_kept : (items : ItemsOf) (t u : Totals) (s end : State) → s ≡ first.0 → items ≡ listed b rules (first.1 ++ (next s).1) → t ≡ totals_of first.1 → u ≡ totals_of (next s).1
      → end ≡ (next s).0 → IsKept (run_over items.source items.rules from to) (record { items = items; totals = plus t u }) end
  joined_kept items t u s end s_is items_is t_is u_is end_is =
      let whole = laws.join b rules Searching from middle to low high in
      let goes_on = ap (λ (x : State). next x) s_is in
      let is : items ≡ listed b rules (guess b rules from (to - from)).1 =
      items_is ∙ ap (λ (r : State × List Item). listed b rules (first.1 ++ r.1)) goes_on ∙ sym (ap (λ (r : State × List Item). listed b rules r.1) whole) in
      let counted : plus t u ≡ totals_of (guess b rules from (to - from)).1 =
      ap₂ (λ (x y : Totals). plus x y) t_is u_is ∙ sym (laws.totals first.1 (next s).1).joined
      ∙ ap (λ (r : State × List Item). totals_of (first.1 ++ r.1)) goes_on ∙ sym (ap (λ (r : State × List Item). totals_of r.1) whole) in
      let ends : end ≡ (guess b rules from (to - from)).0 =
      end_is ∙ ap (λ (r : State × List Item). r.0) goes_on ∙ sym (ap (λ (r : State × List Item). r.0) whole) in
      subst (λ (x : ItemsOf). IsKept (run_over x.source x.rules from to) (record { items = x; totals = plus t u }) end) (sym is) (record {
        inside = (omega (arith, low, high), inside);
        items_are = refl;
        counted = counted;
        ends = ends;
        few = few;
        rules = range;
      })
