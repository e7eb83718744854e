use Rattle.rds_tool.proofs.Names.{arith, common_steps}
use Rattle.rds_tool.proofs.engine.read_some.Goals as goal

pub returns-in_ok-take-in-Ok-clause-grows : goal.returns-in_ok-take-in-Ok-clause-grows
returns-in_ok-take-in-Ok-clause-grows = grind (arith, common_steps)
