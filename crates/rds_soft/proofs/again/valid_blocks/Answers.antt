use Rattle.rds_soft.proofs.Names.{refl}
use Rattle.rds_soft.proofs.AgainLemmas.{group_is, list_of_four}
use Rattle.rds_soft.proofs.again.valid_blocks.Goals as goal

pub returns : goal.returns
returns c b symbols margin place =
    group_is b symbols margin place c.args.blocks.now _ _ _ _ _ _ _ _ _ _ _ _
    (list_of_four c.args.blocks.now c.index-blocks-0.result c.index-blocks-1.result c.index-blocks-2.result c.index-blocks-3.result c.type_inv.blocks)
    refl refl refl (c.in_ok-valid_block.ensures _ _ _ _) (c.in_ok-valid_block-2.ensures _ _ _ _) refl (c.in_ok-valid_block-3.ensures _ _ _ _)
    (c.in_ok-valid_block-4.ensures _ _ _ _)
