use Rattle.rds_tool.proofs.Names.{arith, ap, ◌++◌, ◌∙◌, text_of, soft_row}
use Rattle.rds_tool.proofs.Spelled.{rows_next}
use Rattle.rds_tool.proofs.soft_rows.SoftRows.fill_items.Goals as goal

pub loop-done-preserved : goal.loop-done-preserved
loop-done-preserved c =
    let inv = c.loop-done.invariant in
    let wrote = c.write_listed-count.ensures in
    record {
      rows = c.push_all.ensures.text ∙ ap (λ t. text_of c.loop-done.sheet ++ t) c.as_bytes.ensures
          ∙ rows_next soft_row (text_of c.args.sheet.now) (text_of c.loop-done.sheet) _ c.args.self.now.items.now c.args.from c.loop-done.done c.write_listed-count.result
          inv.order (omega (arith, inv.few, c.requires.inside)) inv.rows wrote.rows;
      left = omega (arith, c.push_all.ensures.left, inv.left, inv.order);
      order = omega (arith, inv.order);
      few = wrote.few;
      size = c.push_all.ensures.size ∙ inv.size;
    }
