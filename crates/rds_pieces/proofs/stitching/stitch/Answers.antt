use Rattle.rds_pieces.proofs.Names.{arith, common_steps}
use Rattle.rds_pieces.proofs.stitching.stitch.Goals as goal

pub returns-clause-totals : goal.returns-clause-totals
returns-clause-totals = grind (arith, common_steps)
