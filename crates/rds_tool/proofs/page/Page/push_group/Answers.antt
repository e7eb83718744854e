use Rattle.rds_tool.proofs.Names.{common_steps, arith, length, rules, ◌≡◌, block_text}
use Rattle.rds_tool.proofs.{GroupRow.eight_fields, RowText.four_blocks, RowText.group_record}
use Rattle.rds_tool.proofs.page.Page.push_group.Goals as goal

pub returns-clause-text : goal.returns-clause-text
returns-clause-text c =
    let g = c.args.group.now in
    let four : length g.blocks ≡ 4 = search rules in
    let blocks = four_blocks block_text g.blocks c.index-group-0.result c.index-group-1.result c.index-group-2.result c.index-group-3.result four in
    let shown = eight_fields c.put_byte.new.self c.args.self.now _ _ _ _ _ _ _ _ _ _ _ _ _ _ _
    c.put.ensures c.put_number.ensures.value c.put_kind.ensures.text c.put_version.ensures.text
    c.put_block.ensures.text c.put_block-2.ensures.text c.put_block-3.ensures.text c.put_block-4.ensures.text c.put_byte.ensures in
    rw blocks shown

pub returns-clause-record : goal.returns-clause-record
returns-clause-record c = grind (arith, common_steps, returns-clause-text, group_record, rules)
