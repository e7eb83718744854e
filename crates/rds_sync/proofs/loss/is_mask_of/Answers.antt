use Rattle.rds_sync.proofs.LossLemmas.{within_ones}
use Rattle.rds_sync.proofs.loss.is_mask_of.Goals as goal

pub returns : goal.returns
returns c = within_ones c.args.mask c.args.of c.requires.few
