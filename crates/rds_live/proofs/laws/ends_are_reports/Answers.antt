use Rattle.rds_live.proofs.NextHeard.{report-heard}
use Rattle.rds_live.proofs.laws.ends_are_reports.Goals as goal

pub returns : goal.returns
returns c live before bytes bits range known heard held =
    report-heard c.runs_move.ensures c.totals_join.ensures live.terms range known.gaps c.runs_join.ensures c.runs_are_lawful.ensures c.ends_move.ensures c.runs_are_reports.ensures
    live before bytes bits heard held
