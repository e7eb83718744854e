use Rattle.rds_tool.proofs.WellFormed.{rows_begin_lists}
use Rattle.rds_tool.proofs.laws.rows_begin_lists.Goals as goal

pub returns : goal.returns
returns c = rows_begin_lists c.runs_move.ensures c.runs_join.ensures c.runs_are_reports.ensures
