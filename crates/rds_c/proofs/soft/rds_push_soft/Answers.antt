use Rattle.std.proofs.{Common.◌≡◌, Common.arith, lemmas.Grind.common_steps}
use Rattle.rds_abi.specs.{Refusals.number_of, declared.refusal.Refusal.Refusal}
use Rattle.rds_c.proofs.soft.rds_push_soft.Goals as goal

never_0 : (r : Refusal) → number_of r ≡ 0 → ⊥
never_0 r none = grind (arith, common_steps)

pub returns-in-Err-clause-heard : goal.returns-in-Err-clause-heard
returns-in-Err-clause-heard c = grind (arith, common_steps, never_0)

pub returns-in-Err-clause-next : goal.returns-in-Err-clause-next
returns-in-Err-clause-next c = grind (arith, common_steps, never_0)

pub returns-in-Err-clause-lawful : goal.returns-in-Err-clause-lawful
returns-in-Err-clause-lawful c = grind (arith, common_steps, never_0)
