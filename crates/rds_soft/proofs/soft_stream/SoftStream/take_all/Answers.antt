use Rattle.rds_soft.proofs.Names.{common_steps, ◌≡◌, ◌++◌, ◌+◌, ◌-◌, ◌*◌, ◌^◌, ◌<◌, ◌≤◌, ◌∙◌, ℕ, List, ap, ap₂, arith, length, map, subst, sym, All, length-append, length-map, Signal, length_of, run, Item, State, moved_state, moved_back, place_of, SoftHeard, SoftTerms, complete, run_of, soft_totals_of, again_in, last_symbols, part_of, SoftItem}
use Rattle.rds_soft.proofs.StreamLemmas.{at-most-more, before-is, complete-after, d, early-is, few-found, found-early, from, kept, kept-after, lawful-is, part-longer, run-is, state-after}
use Rattle.rds_soft.proofs.{AgainLaws.symbols_have_windows, soft_stream.SoftStream.take_all.Given.Over, soft_stream.SoftStream.take_all.Goals.In_ok-found}
use Rattle.rds_soft.proofs.soft_stream.SoftStream.take_all.Goals as goal

pub run_near-requires-clause-lawful : goal.run_near-requires-clause-lawful
run_near-requires-clause-lawful g c =
    lawful-is c.self.invariant c.acquisitions_are_late.ensures c.steps_are_lawful.ensures c.runs_are_lawful.ensures symbols_have_windows c.reach.ensures.range
    c.saturating_sub-from.result c.in_ok-near.near.before (omega (arith, c.saturating_sub-from.ensures, c.len.ensures)) (omega (arith, c.in_ok-near.ensures.before, c.len-2.ensures))

pub run_near-requires-clause-early : goal.run_near-requires-clause-early
run_near-requires-clause-early g c = grind (arith, early-is c.self.invariant c.saturating_sub-from.result c.in_ok-near.near.before, c.saturating_sub-from.ensures, c.len.ensures, c.in_ok-near.ensures.before, c.len-2.ensures)

pub run_near-requires-clause-order : goal.run_near-requires-clause-order
run_near-requires-clause-order g c = grind (arith, part-longer c.self.invariant c.args.symbols.now c.deref.result.now c.in_ok-near.near.recording c.saturating_sub-from.result, c.saturating_sub-from.ensures, c.len.ensures, c.deref.ensures.value, c.in_ok-near.ensures.part)

pub read_all_again-requires-clause-places : goal.read_all_again-requires-clause-places
read_all_again-requires-clause-places g c lifetimes outlives =
    let know = c.self.invariant in
    let symbols : List ℕ = c.self.inside.history.bytes in
    let more : List ℕ = c.args.symbols.now in
    let terms : SoftTerms = record { rules = c.self.inside.rules.now; gaps = c.self.inside.gaps.now; margin = c.self.inside.margin } in
    let found_is = run-is know more c.in_ok-near.near.recording c.saturating_sub-from.result c.in_ok-near.near.before
    (omega (arith, c.saturating_sub-from.ensures, c.len.ensures)) (omega (arith, c.in_ok-near.ensures.before, c.len-2.ensures))
    (c.in_ok-near.ensures.part ∙ ap₂ (λ (n : ℕ) (xs : List ℕ). part_of terms.gaps n (xs ++ more)) (sym c.in_ok-near.ensures.before) c.deref.ensures.value) in
    let fits : length symbols + length more ≤ 2 ^ 36 + 1 = subst (λ (h : SoftHeard). length h.symbols + length more ≤ 2 ^ 36 + 1) (sym c.self.view_is) c.requires in
    subst (λ (xs : List Item). All (λ (item : Item). place_of item < 2 ^ 37) xs)
    (sym (c.deref-3.ensures.value ∙ c.in_ok-items.ensures.items ∙ ap (λ (r : State × List Item). r.1) found_is))
    (found-early c.acquisitions_are_late.ensures c.steps_are_lawful.ensures c.runs_are_lawful.ensures symbols_have_windows terms c.reach.ensures.range know.gaps symbols
    c.runs_join.ensures c.runs_move.ensures more (omega (arith, fits, length-append symbols more)))

-- once the items were read again
module _ (g : Over) (c : In_ok-found g) where
  abbrev terms : SoftTerms
  terms = record { rules = c.self.inside.rules.now; gaps = c.self.inside.gaps.now; margin = c.self.inside.margin }

  abbrev symbols : List ℕ
  symbols = c.self.inside.history.bytes

  abbrev more : List ℕ
  more = c.args.symbols.now

  abbrev near : Signal
  near = c.in_ok-near.near.recording

  from_is : c.saturating_sub-from.result ≡ length c.self.inside.kept.items - 1
  from_is = omega (arith, c.saturating_sub-from.ensures, c.len.ensures)

  before_is : c.in_ok-near.near.before ≡ c.self.inside.count - length c.self.inside.kept.items
  before_is = omega (arith, c.in_ok-near.ensures.before, c.len-2.ensures)

  near_is : near ≡ part_of terms.gaps c.in_ok-near.near.before (c.self.inside.kept.items ++ more)
  near_is =
      c.in_ok-near.ensures.part
      ∙ ap₂ (λ (n : ℕ) (xs : List ℕ). part_of terms.gaps n (xs ++ more)) (sym c.in_ok-near.ensures.before) c.deref.ensures.value

  abbrev part : Signal
  part = part_of terms.gaps (d symbols) (kept symbols ++ more)

  near_part : near ≡ part
  near_part = near_is ∙ ap₂ (λ (n : ℕ) (xs : List ℕ). part_of terms.gaps n (xs ++ more)) (before_is ∙ before-is c.self.invariant) c.self.invariant.kept_is

  abbrev found : State × List Item
  found = run part terms.rules (moved_back (d symbols) (run_of terms symbols).0) (from symbols) (length_of part - from symbols)

  found_is : run near terms.rules (moved_back c.in_ok-near.near.before c.self.inside.state) c.saturating_sub-from.result (length_of near - c.saturating_sub-from.result) ≡ found
  found_is = run-is c.self.invariant more near c.saturating_sub-from.result c.in_ok-near.near.before from_is before_is near_is

  hard_are : c.deref-3.result.now ≡ found.1
  hard_are = c.deref-3.ensures.value ∙ c.in_ok-items.ensures.items ∙ ap (λ (r : State × List Item). r.1) found_is

  fits : length symbols + length more ≤ 2 ^ 36 + 1
  fits = subst (λ (h : SoftHeard). length h.symbols + length more ≤ 2 ^ 36 + 1) (sym c.self.view_is) c.requires

  abbrev all : List ℕ
  all = symbols ++ more

  before_at : c.in_ok-near.near.before ≡ d symbols
  before_at = before_is ∙ before-is c.self.invariant

  symbols_at : c.in_ok-near.near.symbols.items ≡ kept symbols ++ more
  symbols_at = c.in_ok-near.ensures.symbols ∙ ap (λ (xs : List ℕ). xs ++ more) (c.deref.ensures.value ∙ c.self.invariant.kept_is)

  abbrev again : Signal → List ℕ → ℕ → List Item → List SoftItem
  again b xs before items = map (again_in b xs c.self.inside.margin before) items

  items_are : c.in_ok-found.found ≡ again part (kept symbols ++ more) (d symbols) found.1
  items_are = grind (arith, common_steps, c.in_ok-found.ensures, c.in_ok-near.ensures.margin, near_part, symbols_at, before_at, hard_are)

  complete_is : complete terms all ≡ complete terms symbols ++ c.in_ok-found.found
  complete_is =
      complete-after c.acquisitions_are_late.ensures c.steps_are_lawful.ensures c.runs_are_lawful.ensures symbols_have_windows terms c.reach.ensures.range c.self.invariant.gaps symbols
      c.runs_join.ensures c.runs_move.ensures more
      ∙ ap (λ (xs : List SoftItem). complete terms symbols ++ xs) (sym items_are)

  few : length c.in_ok-found.found ≤ 2 * length more
  few =
      let whole = length-map found.1 (again_in part (kept symbols ++ more) c.self.inside.margin (d symbols)) in
      let found_few = few-found c.acquisitions_are_late.ensures c.steps_are_lawful.ensures c.runs_are_lawful.ensures symbols_have_windows terms c.reach.ensures.range c.self.invariant.gaps
      symbols c.runs_join.ensures c.runs_move.ensures more c.runs_give_few_items.ensures in
      omega (arith, ap (λ (xs : List SoftItem). length xs) items_are, whole, found_few)

pub counted-self-inside-requires : goal.counted-self-inside-requires
counted-self-inside-requires g c =
    let n = (goal.at.counted-self-inside-requires g c).In_ok-found in (
      2 ^ 11 * length (symbols g n),
      c.self.invariant.small,
      omega (arith, few g n, fits g n),
    )

pub invariant_of-self-2 : goal.invariant_of-self-2
invariant_of-self-2 g c =
    let n = (goal.at.invariant_of-self-2 g c).In_ok-found in
    let know = c.self.invariant in
    let sums = c.counted-self-inside.ensures in
    let noted : c.note.new.self.bytes ≡ symbols g n ++ more g n = c.note.ensures in
    let long : length c.note.new.self.bytes ≡ length (symbols g n) + length (more g n) = ap (λ (xs : List ℕ). length xs) noted ∙ length-append (symbols g n) (more g n) in
    record {
      count_is = omega (arith, know.count_is, long);
      limit = omega (arith, long, fits g n);
      kept_is = c.in_ok-kept.ensures ∙ ap last_symbols (c.deref-2.ensures.value ∙ c.in_ok-near.ensures.symbols ∙ ap (λ (xs : List ℕ). xs ++ more g n) c.deref.ensures.value)
          ∙ kept-after know (more g n) ∙ ap last_symbols (sym noted);
      state_is = c.in_ok-items.ensures.state
          ∙ ap₂ (λ (k : ℕ) (r : State × List Item). moved_state k r.0) (before_at g n) (found_is g n)
          ∙ state-after c.acquisitions_are_late.ensures c.steps_are_lawful.ensures c.runs_are_lawful.ensures symbols_have_windows (terms g n) c.reach.ensures.range know.gaps (symbols g n)
          c.runs_join.ensures c.runs_move.ensures (more g n)
          ∙ ap (λ (xs : List ℕ). (run_of (terms g n) xs).0) (sym noted);
      totals_are = sums.value (complete (terms g n) (symbols g n)) know.totals_are
          ∙ ap soft_totals_of (sym (complete_is g n))
          ∙ ap (λ (xs : List ℕ). soft_totals_of (complete (terms g n) xs)) (sym noted);
      small = at-most-more (2 ^ 11 * length (symbols g n) + 2 ^ 10 * length c.in_ok-found.found) (2 ^ 11 * length c.note.new.self.bytes) c.counted-self-inside.result
          (omega (arith, few g n, long)) (sums.small (2 ^ 11 * length (symbols g n)) know.small);
      gaps = know.gaps;
    }

pub returns-clause-items : goal.returns-clause-items
returns-clause-items g c =
    let n = (goal.at.returns-clause-items g c).In_ok-found in
    subst (λ (h : SoftHeard). complete h.terms (h.symbols ++ c.args.symbols.now) ≡ complete h.terms h.symbols ++ c.in_ok-found.found) c.self.view_is (complete_is g n)

pub overflow_sub-before : goal.overflow_sub-before
overflow_sub-before = grind (arith, common_steps)

pub near_of-requires-clause-limit : goal.near_of-requires-clause-limit
near_of-requires-clause-limit = grind (arith, common_steps)

pub run_near-requires-clause-limit : goal.run_near-requires-clause-limit
run_near-requires-clause-limit = grind (arith, common_steps)

pub returns-clause-heard : goal.returns-clause-heard
returns-clause-heard = grind (arith, common_steps)

pub returns-in_err-items-clause-heard : goal.returns-in_err-items-clause-heard
returns-in_err-items-clause-heard = grind (arith, common_steps)

pub returns-in_err-items-clause-items : goal.returns-in_err-items-clause-items
returns-in_err-items-clause-items = grind (arith, common_steps)

pub returns-in_err-items-clause-refused : goal.returns-in_err-items-clause-refused
returns-in_err-items-clause-refused = grind (arith, common_steps)

pub returns-in_err-kept-clause-refused : goal.returns-in_err-kept-clause-refused
returns-in_err-kept-clause-refused = grind (arith, common_steps)
