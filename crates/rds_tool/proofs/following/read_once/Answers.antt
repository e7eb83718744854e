use Rattle.rds_tool.proofs.Names.{arith, common_steps, inr, take-append-le}
use Rattle.rds_tool.proofs.following.read_once.Goals as goal

pub returns-in-Ok-clause-taken : goal.returns-in-Ok-clause-taken
returns-in-Ok-clause-taken g c = grind (arith, common_steps, take-append-le)

pub returns-in-Ok-clause-end : goal.returns-in-Ok-clause-end
returns-in-Ok-clause-end g c = λ none. inr (c.in-Ok.ensures.bytes.1 none (grind (arith, common_steps)))
