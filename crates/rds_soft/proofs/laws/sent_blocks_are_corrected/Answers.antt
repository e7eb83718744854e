use Rattle.rds_soft.proofs.NearestLaws.{corrects_sent}
use Rattle.rds_soft.proofs.laws.sent_blocks_are_corrected.Goals as goal

pub returns : goal.returns
returns c = corrects_sent
