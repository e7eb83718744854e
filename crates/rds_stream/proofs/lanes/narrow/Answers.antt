use Rattle.rds_stream.proofs.Names.{common_steps, arith, length-zip2, get_or-zip2, get_or-replicate}
use Rattle.rds_stream.proofs.lanes.narrow.Goals as goal

pub returns : goal.returns
returns c = grind (arith, common_steps, length-zip2, get_or-zip2, get_or-replicate)
