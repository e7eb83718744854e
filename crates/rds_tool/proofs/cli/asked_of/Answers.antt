use Rattle.rds_tool.proofs.Names.{arith}
use Rattle.rds_tool.proofs.Refusing.{answer_steps}
use Rattle.rds_tool.proofs.cli.asked_of.Goals as goal

pub returns-in-Err-clause-refused : goal.returns-in-Err-clause-refused
returns-in-Err-clause-refused = grind (arith, answer_steps)
