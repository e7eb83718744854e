use Rattle.rds_tool.proofs.Names.{length, ◌≡◌, soft_block_text}
use Rattle.rds_tool.proofs.{GroupRow.eight_fields, RowText.four_blocks}
use Rattle.rds_soft.specs.declared.soft_item.SoftBlock.TheVariants.{Missing}
use Rattle.rds_tool.proofs.page.Page.push_soft_group.Goals as goal

pub returns-clause-text : goal.returns-clause-text
returns-clause-text c =
    let g = c.args.group.now in
    let four : length g.blocks ≡ 4 = c.count_four.ensures in
    let blocks = four_blocks soft_block_text g.blocks Missing Missing Missing Missing four in
    let shown = eight_fields c.put_byte.new.self c.args.self.now _ _ _ _ _ _ _ _ _ _ _ _ _ _ _
    c.put.ensures c.put_number.ensures.value c.put_kind.ensures.text c.put_version.ensures.text
    c.put_soft_block.ensures.text c.put_soft_block-2.ensures.text c.put_soft_block-3.ensures.text c.put_soft_block-4.ensures.text c.put_byte.ensures in
    rw blocks shown
