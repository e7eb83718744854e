use Rattle.rds_stream.proofs.Names.{common_steps, arith}
use Rattle.rds_stream.proofs.Places.{window_of_eight, window_before_of_eight}
use Rattle.rds_stream.proofs.packed.bits_up_to.Goals as goal

pub returns-clause-here : goal.returns-clause-here
returns-clause-here c bits within = grind (arith, common_steps, window_of_eight)

pub returns-clause-before : goal.returns-clause-before
returns-clause-before c bits within = grind (arith, common_steps, window_before_of_eight)
