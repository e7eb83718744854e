use Rattle.rds_sync.proofs.Names.{refl}
use Rattle.rds_sync.proofs.totals.Totals.plus.Goals as goal

pub returns-clause-value : goal.returns-clause-value
returns-clause-value c = refl
