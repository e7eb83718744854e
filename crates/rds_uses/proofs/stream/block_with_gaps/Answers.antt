use Rattle.std.proofs.{Common.arith, lemmas.Grind.common_steps}
use Rattle.rds_stream.proofs.WindowLists.{heard_clear, heard_touched, off_late}
use Rattle.rds_uses.proofs.stream.block_with_gaps.Goals as goal

pub returns-clause-touched : goal.returns-clause-touched
returns-clause-touched c = grind (arith, common_steps, heard_touched)

pub returns-clause-clear : goal.returns-clause-clear
returns-clause-clear c = grind (arith, common_steps, heard_clear)

pub returns-clause-offset : goal.returns-clause-offset
returns-clause-offset c = grind (arith, common_steps, off_late)
