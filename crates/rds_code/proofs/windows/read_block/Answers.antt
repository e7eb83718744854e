use Rattle.rds_code.proofs.Names.{common_steps, sym, subst, arith, IsReading}
use Rattle.rds_code.proofs.ReadingLemmas.{reads_corrected, reading_is}
use Rattle.rds_code.proofs.windows.read_block.Goals as goal

pub returns-clause-value : goal.returns-clause-value
returns-clause-value c = grind (arith, common_steps, reads_corrected)

pub returns-clause-rule : goal.returns-clause-rule
returns-clause-rule c =
    subst (IsReading c.args.w c.args.number c.args.wanted c.args.limit) (sym (returns-clause-value c))
    (reading_is c.args.w c.args.number c.args.wanted c.args.limit (omega arith) (omega arith) (omega arith))
