use Rattle.rds_sync.proofs.TotalsLemmas.{rest_is}
use Rattle.rds_sync.proofs.totals.Totals.less.Goals as goal

pub returns-clause-value : goal.returns-clause-value
returns-clause-value c rest is = rest_is c.args.part c.args.self rest is
