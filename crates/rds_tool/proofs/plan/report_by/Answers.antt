use Rattle.rds_tool.proofs.Names.{common_steps, arith, ap, ◌∙◌, PlanOf}
use Rattle.rds_tool.proofs.Texts.{items_heard, totals_counted}
use Rattle.rds_pieces.specs.WorkOf.{WorkOf}
use Rattle.rds_tool.proofs.plan.report_by.Goals as goal

pub returns-clause-items : goal.returns-clause-items
returns-clause-items g c = grind (arith, common_steps, items_heard)

pub returns-clause-totals : goal.returns-clause-totals
returns-clause-totals g c =
    let recording = ap (λ (w : WorkOf). w.recording) (c.cut_into-work.ensures ∙ c.new.ensures) in
    let rules = ap (λ (w : WorkOf). w.rules) (c.cut_into-work.ensures ∙ c.new.ensures) in
    let own = ap (λ (p : PlanOf). p.rules) c.plan.view_is in
    totals_counted _ _ _ _ _ c.in_ok-decode_crew.ensures.totals recording (cc)
