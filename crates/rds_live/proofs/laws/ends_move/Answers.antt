use Rattle.rds_live.proofs.HeardParts.{end-moved}
use Rattle.rds_live.proofs.laws.ends_move.Goals as goal

pub returns : goal.returns
returns c = end-moved
