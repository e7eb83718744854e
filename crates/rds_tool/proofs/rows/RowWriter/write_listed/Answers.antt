use Rattle.rds_tool.proofs.Names.{arith, List, ap, [], ◌++◌, ◌∙◌, soft_row}
use Rattle.rds_tool.proofs.Spelled.{row_next}
use Rattle.rds_soft.specs.SoftLists.{item_of}
use Rattle.rds_soft.specs.declared.soft_item.SoftItem.TheVariants.{LostLock}
use Rattle.rds_tool.proofs.rows.RowWriter.write_listed.Goals as goal

pub loop-at-preserved : goal.loop-at-preserved
loop-at-preserved c =
    let inv = c.loop-at.invariant in
    record {
      rows = c.push_listed.ensures.text
          ∙ row_next soft_row c.loop-at.self c.args.items.now c.args.from c.loop-at.at (item_of c.get.result) (LostLock 0) inv.order
          (omega (arith, c.loop-at-test.true, c.requires.inside)) inv.rows (c.get.ensures.value (LostLock 0));
      short = omega (arith, c.push_listed.ensures.short, inv.short, inv.order);
      order = omega (arith, inv.order);
      few = omega (arith, c.loop-at-test.true);
    }
