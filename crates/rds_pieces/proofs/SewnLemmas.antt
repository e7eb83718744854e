-- A run and its guess that met go on as one: the whole run has the items of the run up to the meeting, and
-- then those of the guess.
use Rattle.rds_pieces.proofs.Names.{common_steps, ◌≡◌, ℕ, ◌-◌, ◌^◌, ◌≤◌, List, ◌++◌, length, drop, sym, ap, ap₂, ◌∙◌, arith, Signal, Item, State, Searching, Totals, ItemsOf, listed, IsRest, FitTogether, plus, RuleNumbers, run, totals_of, guess, RunLaws, MeetFirstAt, front_rest}
use Rattle.rds_pieces.proofs.SmallTotals.{totals_of_two}

module _ (laws : RunLaws) {b : Signal} {rules : RuleNumbers} {s : State} {from to place : ℕ} (met : MeetFirstAt b rules s Searching from to place) where
  abbrev pub own : State × List Item
  own = run b rules s from (place - from)

  -- the result of both from the meeting on
  abbrev pub later : State × List Item
  later = run b rules own.0 place (to - place)

  own_all : run b rules s from (to - from) ≡ (later.0, own.1 ++ later.1)
  own_all = laws.join b rules s from place to met.here.inside.0 met.here.inside.1

  guess_all : guess b rules from (to - from) ≡ (later.0, (guess b rules from (place - from)).1 ++ later.1)
  guess_all = grind (arith, common_steps, guess)

  pub sewn_list : {mine theirs before after : ItemsOf} {n : ℕ} → mine ≡ listed b rules own.1 → theirs ≡ listed b rules (guess b rules from (to - from)).1
      → before ≡ listed b rules (guess b rules from (place - from)).1 → n ≡ length before.list
      → after ≡ listed mine.source mine.rules (mine.list ++ drop n theirs.list) → after ≡ listed b rules (run b rules s from (to - from)).1
  sewn_list {mine = mine} {theirs = theirs} {n = n} mine_is theirs_is before_is n_is after_is = grind (arith, common_steps, guess, guess_all, front_rest, own_all)

  -- its totals but for theirs
  pub sewn_rest : {all part : Totals} → all ≡ totals_of (guess b rules from (to - from)).1 → part ≡ totals_of (guess b rules from (place - from)).1 → IsRest part all (totals_of later.1)
  sewn_rest all_is part_is =
      let rest = laws.totals (guess b rules from (place - from)).1 later.1 in
      record {
        spans = rest.spans;
        joined = all_is ∙ ap (λ (r : State × List Item). totals_of r.1) guess_all ∙ rest.joined ∙ ap (λ (t : Totals). plus t (totals_of later.1)) (sym part_is);
      }

  pub sewn_fit : rules.burst ≤ 5 → to - from ≤ 2 ^ 36 → {one other : Totals} → one ≡ totals_of own.1 → other ≡ totals_of later.1 → FitTogether one other
  sewn_fit burst few one_is other_is =
      let i = met.here.inside in
      totals_of_two b rules laws.readings burst laws.totals s own.0 from (place - from) place (to - place) (omega (arith, i, few)) _ _ one_is other_is

  pub sewn_totals : {one other : Totals} → one ≡ totals_of own.1 → other ≡ totals_of later.1 → plus one other ≡ totals_of (run b rules s from (to - from)).1
  sewn_totals one_is other_is =
      ap₂ (λ (t u : Totals). plus t u) one_is other_is ∙ sym (laws.totals own.1 later.1).joined ∙ sym (ap (λ (r : State × List Item). totals_of r.1) own_all)

  -- and its end
  pub sewn_end : (guess b rules from (to - from)).0 ≡ (run b rules s from (to - from)).0
  sewn_end = ap (λ (r : State × List Item). r.0) guess_all ∙ sym (ap (λ (r : State × List Item). r.0) own_all)
