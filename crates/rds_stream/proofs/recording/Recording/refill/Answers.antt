use Rattle.rds_stream.proofs.Names.{common_steps, arith}
use Rattle.rds_stream.proofs.Places.{steps}
use Rattle.rds_stream.proofs.recording.Recording.refill.Goals as goal

pub invariant_of-self : goal.invariant_of-self
invariant_of-self = grind (arith, steps)

pub returns : goal.returns
returns = grind (arith, common_steps)
