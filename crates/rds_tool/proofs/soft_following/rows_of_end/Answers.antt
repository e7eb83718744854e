use Rattle.rds_tool.proofs.SoftFollowed.{text-ends}
use Rattle.rds_tool.proofs.soft_following.rows_of_end.Goals as goal

pub returns-clause-rows : goal.returns-clause-rows
returns-clause-rows c =
    text-ends c.args.stream.terms c.args.stream.symbols c.in_ok-end.end.group c.in_ok-end.end.totals _ c.in_ok-end.ensures.group c.in_ok-end.ensures.totals c.in_ok-rows_to_end.ensures
