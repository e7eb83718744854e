use Rattle.rds_soft.proofs.Names.{◌∙◌, arith}
use Rattle.rds_soft.proofs.AgainLemmas.{group_is, list_of_four}
use Rattle.rds_soft.proofs.again.searched_group.Goals as goal

pub returns : goal.returns
returns c =
    c.of_blocks.ensures
    ∙ group_is c.args.source.now.recording.now _ c.args.source.now.margin c.args.source.now.place c.args.blocks.now _ _ _ _ _ _ _ _ _ _ _ _
    (list_of_four c.args.blocks.now c.index-blocks-0.result c.index-blocks-1.result c.index-blocks-2.result c.index-blocks-3.result c.type_inv.blocks)
    (omega (arith, c.was_read-after_one.ensures.value)) (omega (arith, c.was_read-after_one.ensures.value, c.was_read.ensures.value))
    (omega (arith, c.was_read-after_one.ensures.value, c.was_read.ensures.value, c.was_read-2.ensures.value))
    c.block_again-first.ensures c.block_again-second.ensures c.wanted_beside-wanted.ensures c.block_again-third.ensures c.block_again-fourth.ensures
