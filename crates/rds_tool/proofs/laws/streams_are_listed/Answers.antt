use Rattle.rds_tool.proofs.JobLaws.{streams_are_listed}
use Rattle.rds_tool.proofs.laws.streams_are_listed.Goals as goal

pub returns : goal.returns
returns c = streams_are_listed
