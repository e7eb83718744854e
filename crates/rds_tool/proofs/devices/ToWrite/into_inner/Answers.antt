use Rattle.rds_tool.proofs.Tied.{appends_told}
use Rattle.rds_tool.proofs.devices.ToWrite.into_inner.Goals as goal

pub returns-clause-tied : goal.returns-clause-tied
returns-clause-tied g c = appends_told _ _ _ c.args.self.tied
