use Rattle.rds_soft.proofs.Names.{common_steps, arith}
use Rattle.rds_soft.proofs.soft_totals.SoftTotals.of_group.Goals as goal

pub returns-then-valid-eq4-clause-value : goal.returns-then-valid-eq4-clause-value
returns-then-valid-eq4-clause-value = grind (arith, common_steps)

pub returns-clause-value : goal.returns-clause-value
returns-clause-value = grind (arith, common_steps)
