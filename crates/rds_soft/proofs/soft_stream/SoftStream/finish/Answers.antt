use Rattle.rds_soft.proofs.Names.{common_steps, ◌≡◌, ◌++◌, ◌∙◌, ℕ, List, [], ap, ap₂, arith, subst, sym, SoftHeard, SoftTerms, complete, group_item, report_of, soft_totals_of, part_of, SoftGroup, Option}
use Rattle.rds_soft.proofs.{AgainLaws.symbols_have_windows, StreamLemmas.closed, StreamLemmas.early-is, StreamLemmas.end-long, StreamLemmas.lawful-is, soft_stream.SoftStream.finish.Goals.After-end_near-group}
use Rattle.rds_soft.proofs.soft_stream.SoftStream.finish.Goals as goal

pub end_near-group-requires-clause-lawful : goal.end_near-group-requires-clause-lawful
end_near-group-requires-clause-lawful c =
    lawful-is c.self.invariant c.acquisitions_are_late.ensures c.steps_are_lawful.ensures c.runs_are_lawful.ensures symbols_have_windows c.reach.ensures.range
    _ c.in_ok-near.near.before (end-long c.self.invariant c.deref.result.now c.in_ok-near.near.recording _ c.deref.ensures.value c.in_ok-near.ensures.part)
    (omega (arith, c.in_ok-near.ensures.before, c.len.ensures))

pub end_near-group-requires-clause-early : goal.end_near-group-requires-clause-early
end_near-group-requires-clause-early c =
    early-is c.self.invariant _ c.in_ok-near.near.before (end-long c.self.invariant c.deref.result.now c.in_ok-near.near.recording _ c.deref.ensures.value c.in_ok-near.ensures.part)
    (omega (arith, c.in_ok-near.ensures.before, c.len.ensures))

-- the items that are complete and the group in progress are the report's
module _ (c : After-end_near-group) where
  abbrev terms : SoftTerms
  terms = record { rules = c.self.inside.rules.now; gaps = c.self.inside.gaps.now; margin = c.self.inside.margin }

  abbrev symbols : List ℕ
  symbols = c.self.inside.history.bytes

  report_is : complete terms symbols ++ group_item c.end_near-group.result ≡ report_of terms symbols
  report_is =
      let end = closed c.self.invariant c.acquisitions_are_late.ensures c.steps_are_lawful.ensures c.runs_are_lawful.ensures symbols_have_windows c.reach.ensures.range
      c.runs_are_reports.ensures c.ends_move.ensures c.in_ok-near.near.recording c.in_ok-near.near.symbols.items c.in_ok-near.near.before
      (omega (arith, c.in_ok-near.ensures.before, c.len.ensures))
      (c.in_ok-near.ensures.part ∙ ap₂ (λ (n : ℕ) (xs : List ℕ). part_of terms.gaps n (xs ++ [])) (sym c.in_ok-near.ensures.before) c.deref.ensures.value)
      (c.in_ok-near.ensures.symbols ∙ ap (λ (xs : List ℕ). xs ++ []) c.deref.ensures.value) in
      grind (arith, common_steps, c.end_near-group.ensures, c.in_ok-near.ensures.margin, end)

pub returns-clause-group : goal.returns-clause-group
returns-clause-group c =
    let e = (goal.at.returns-clause-group c).After-end_near-group in
    subst (λ (h : SoftHeard). complete h.terms h.symbols ++ group_item c.soft_end_of.result.group ≡ report_of h.terms h.symbols) c.self.view_is
    (ap (λ (group : Option SoftGroup). complete (terms e) (symbols e) ++ group_item group) c.soft_end_of.ensures.group ∙ report_is e)

pub returns-clause-totals : goal.returns-clause-totals
returns-clause-totals c =
    let e = (goal.at.returns-clause-totals c).After-end_near-group in
    subst (λ (h : SoftHeard). c.soft_end_of.result.totals ≡ soft_totals_of (report_of h.terms h.symbols)) c.self.view_is
    (c.soft_end_of.ensures.totals (complete (terms e) (symbols e)) c.self.invariant.totals_are ∙ ap soft_totals_of (report_is e))

pub overflow_sub-before : goal.overflow_sub-before
overflow_sub-before = grind (arith, common_steps)

pub near_of-requires-clause-limit : goal.near_of-requires-clause-limit
near_of-requires-clause-limit = grind (arith, common_steps)

pub end_near-group-requires-clause-limit : goal.end_near-group-requires-clause-limit
end_near-group-requires-clause-limit = grind (arith, common_steps)
