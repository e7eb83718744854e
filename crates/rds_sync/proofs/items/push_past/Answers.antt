use Rattle.rds_sync.proofs.Lemmas.{arith, common_steps, push_past}
use Rattle.rds_sync.proofs.items.push_past.Goals as goal

pub returns-in-Ok-clause-ok : goal.returns-in-Ok-clause-ok
returns-in-Ok-clause-ok = grind (arith, push_past)

pub returns-in_default-clause-ok : goal.returns-in_default-clause-ok
returns-in_default-clause-ok = grind (arith, common_steps)

pub returns-in-Err-clause-refused : goal.returns-in-Err-clause-refused
returns-in-Err-clause-refused = grind (arith, common_steps)
