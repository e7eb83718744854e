use Rattle.rds_soft.proofs.NearestLaws.{has_one_nearest}
use Rattle.rds_soft.proofs.laws.nearest_blocks_are_alone.Goals as goal

pub returns : goal.returns
returns c = has_one_nearest
