use Rattle.rds_tool.proofs.Names.{arith, common_steps}
use Rattle.rds_tool.proofs.page.Page.put.Goals as goal

pub invariant_of-self : goal.invariant_of-self
invariant_of-self = grind (arith, common_steps)
