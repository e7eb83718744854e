use Rattle.rds_tool.proofs.Names.{◌∙◌, Ok, ap, sym}
use Rattle.rds_tool.proofs.Texts.{totals_made}
use Rattle.rds_tool.proofs.making.totals_of.Goals as goal

pub returns-clause-ok : goal.returns-clause-ok
returns-clause-ok g c =
    let report = c.in_ok-report.ensures in
    totals_made c.args.input c.args.plan.now c.args.held.items c.in_ok-recording.recording c.in_ok-report.report.totals
    c.in_ok-recording.ensures.ok report.fits report.totals
    ∙ ap (λ text. Ok text) (sym c.in_ok-totals_rows.ensures.rows)
