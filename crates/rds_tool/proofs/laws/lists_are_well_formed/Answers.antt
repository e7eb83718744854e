use Rattle.rds_tool.proofs.WellFormed.{lists_are_well_formed}
use Rattle.rds_tool.proofs.laws.lists_are_well_formed.Goals as goal

pub returns : goal.returns
returns c = lists_are_well_formed c.runs_are_reports.ensures c.steps_are_lawful.ensures c.acquisitions_are_late.ensures
