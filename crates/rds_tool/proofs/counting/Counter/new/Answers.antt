use Rattle.rds_tool.proofs.Names.{arith, common_steps}
use Rattle.rds_tool.proofs.counting.Counter.new.Goals as goal

pub invariant_of-result : goal.invariant_of-result
invariant_of-result = grind (arith, common_steps)
