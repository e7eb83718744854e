use Rattle.rds_sync.proofs.Lemmas.{◌+◌, outcomes-are, whole-is}
use Rattle.rds_sync.proofs.four_blocks.any_heard.Goals as goal

pub returns : goal.returns
returns c b due late place heard =
    let rules = c.args.rules.now in
    let blocks = c.blocks_of-blocks.result in
    let are = c.blocks_of-blocks.ensures b due heard in
    whole-is b rules due c.args.loss c.args.place blocks _ c.args.bad c.in_ok-after.after c.of_blocks.result late place are (outcomes-are b rules 1 4 (due + 78) blocks are) c.requires.loss
    c.of_blocks.ensures c.in_ok-after.ensures
