use Rattle.rds_sync.proofs.Lemmas.{heard-blocks}
use Rattle.rds_sync.proofs.four_blocks.blocks_of.Goals as goal

pub returns : goal.returns
returns c b due is = heard-blocks b c.args.rules.now due c.args.heard.now is c.wanted_beside.result c.read.result c.read-2.result c.read-3.result c.read-4.result c.read.ensures c.read-2.ensures c.wanted_beside.ensures c.read-3.ensures c.read-4.ensures
