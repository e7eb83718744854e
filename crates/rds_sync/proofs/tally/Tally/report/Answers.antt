use Rattle.rds_sync.proofs.Names.{arith, common_steps}
use Rattle.rds_sync.proofs.tally.Tally.report.Goals as goal

pub overflow_sub-left : goal.overflow_sub-left
overflow_sub-left = grind (arith, common_steps)

pub push_span-requires-clause-count : goal.push_span-requires-clause-count
push_span-requires-clause-count = grind (arith, common_steps)

pub returns-clause-totals : goal.returns-clause-totals
returns-clause-totals = grind (arith, common_steps)
