use Rattle.rds_sync.proofs.Names.{refl, arith}
use Rattle.rds_sync.proofs.rules.Rules.of.Goals as goal

pub returns-in_default-clause-burst_range : goal.returns-in_default-clause-burst_range
returns-in_default-clause-burst_range c = (λ _. grind arith, λ _. refl)

pub returns-in_default-clause-reach_range : goal.returns-in_default-clause-reach_range
returns-in_default-clause-reach_range c = (λ e. absurd (grind (arith, e)), λ outside. absurd (grind (arith, outside.0)))
