use Rattle.rds_code.proofs.Names.{common_steps, arith, sym, subst, IsRemainder}
use Rattle.rds_code.proofs.RemainderLemmas.{rem-is, rem-by_bytes}
use Rattle.rds_code.proofs.remainder.rem26.Goals as goal

pub returns-clause-value : goal.returns-clause-value
returns-clause-value c = grind (arith, common_steps, rem-by_bytes)

pub returns-clause-remainder : goal.returns-clause-remainder
returns-clause-remainder c =
    subst (IsRemainder c.args.w) (sym (returns-clause-value c)) (rem-is c.args.w c.requires)
