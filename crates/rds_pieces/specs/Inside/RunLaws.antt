-- The laws of runs that the proofs of this crate rest on: those that rds_sync and rds_code promise. `run_laws`, which bodies
-- call, has them at hand; no public call cites it.
use Rattle.rds_code.specs.Laws.{ReadsByRule}
use Rattle.rds_sync.specs.{Counting.TotalsJoin, Laws.RunsAreReports, Laws.RunsJoin, Laws.RunsAreLawful}

pub record RunLaws : Type 0 where
  pub reports : RunsAreReports
  pub join : RunsJoin
  pub lawful_runs : RunsAreLawful
  pub totals : TotalsJoin
  pub readings : ReadsByRule
