use Rattle.rds_soft.proofs.Names.{common_steps, arith}
use Rattle.rds_soft.proofs.near.read_each.Goals as goal

pub loop-item-preserved : goal.loop-item-preserved
loop-item-preserved = grind (arith, common_steps)

pub returns : goal.returns
returns = grind (arith, common_steps)
