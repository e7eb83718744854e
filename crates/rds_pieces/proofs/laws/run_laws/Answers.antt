use Rattle.rds_pieces.proofs.laws.run_laws.Goals as goal

pub returns : goal.returns
returns c = record {
  reports = c.runs_are_reports.ensures;
  join = c.runs_join.ensures;
  lawful_runs = c.runs_are_lawful.ensures;
  totals = c.totals_join.ensures;
  readings = c.readings_follow_the_rule.ensures;
}
