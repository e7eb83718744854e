use Rattle.rds_tool.proofs.JobLaws.{lists_end_with_totals}
use Rattle.rds_tool.proofs.laws.lists_end_with_totals.Goals as goal

pub returns : goal.returns
returns c = lists_end_with_totals
