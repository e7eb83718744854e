use Rattle.rds_tool.proofs.Names.{arith, common_steps}
use Rattle.rds_tool.proofs.stream_rows.StreamRows.write_to.Goals as goal

pub returns-in-Ok-clause-ok : goal.returns-in-Ok-clause-ok
returns-in-Ok-clause-ok = grind (arith, common_steps)

pub returns-in-Ok-clause-prefix : goal.returns-in-Ok-clause-prefix
returns-in-Ok-clause-prefix = grind (arith, common_steps)

pub returns-in-Err-clause-prefix : goal.returns-in-Err-clause-prefix
returns-in-Err-clause-prefix = grind (arith, common_steps)
