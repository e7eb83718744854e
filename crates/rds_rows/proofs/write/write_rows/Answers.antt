use Rattle.rds_rows.proofs.Names.{common_steps, arith}
use Rattle.rds_rows.proofs.write.write_rows.Goals as goal

pub by_value-lent-requires : goal.by_value-lent-requires
by_value-lent-requires = grind (arith, common_steps)
