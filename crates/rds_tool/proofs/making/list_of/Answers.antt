use Rattle.std.proofs.Common.{rules}
use Rattle.rds_tool.proofs.Texts.{list_made, once_made}
use Rattle.rds_tool.proofs.making.list_of.Goals as goal

pub returns-then-not-wants_calls-clause-ok : goal.returns-then-not-wants_calls-clause-ok
returns-then-not-wants_calls-clause-ok g c =
    once_made c.args.input c.args.plan c.args.held.items c.in_ok-recording.recording c.in_ok-recording.ensures.ok (search rules)

pub returns-clause-ok : goal.returns-clause-ok
returns-clause-ok g c =
    let report = c.in_ok-report.ensures in
    list_made c.args.input c.args.plan c.args.held.items c.in_ok-recording.recording c.in_ok-report.report
    c.in_ok-recording.ensures.ok report.fits report.items report.totals
