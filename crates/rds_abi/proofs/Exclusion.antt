-- The refusals of a call exclude each other.
use Rattle.rds_abi.{proofs.Shared.common_steps, proofs.Shared.arith, specs.Exclusion.ReasonsExclude}

-- `grind` looks at each pair of reasons
pub reasons-exclude : ReasonsExclude
reasons-exclude = record {
  whole = λ a one other x y. grind (arith, common_steps);
  range = λ a from to s one other x y. grind (arith, common_steps);
  push = λ rules gaps s bytes one other x y. grind (arith, common_steps);
  push_soft = λ rules gaps margin s bytes one other x y. grind (arith, common_steps);
  finish = λ rules gaps s one other x y. grind (arith, common_steps);
  finish_with = λ rules gaps s bytes bits one other x y. grind (arith, common_steps);
  correct = λ w offset limit one other x y. grind (arith, common_steps);
  name = λ number room one other x y. grind (arith, common_steps);
}
