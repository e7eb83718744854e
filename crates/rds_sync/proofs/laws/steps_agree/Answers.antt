use Rattle.rds_sync.proofs.HopLemmas.{hops_are_stretches, stretches_are_steps}
use Rattle.rds_sync.proofs.laws.steps_agree.Goals as goal

pub returns-clause-stretches : goal.returns-clause-stretches
returns-clause-stretches c = stretches_are_steps

pub returns-clause-hops : goal.returns-clause-hops
returns-clause-hops c = hops_are_stretches
