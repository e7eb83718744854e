use Rattle.rds_stream.proofs.Names.{arith}
use Rattle.rds_stream.proofs.Places.{steps}
use Rattle.rds_stream.proofs.recording.Recording.with_gaps.Goals as goal

pub invariant_of-result : goal.invariant_of-result
invariant_of-result = grind (arith, steps)
