use Rattle.rds_tool.proofs.Names.{arith, common_steps, ap, sym, flat_map, take, ◌++◌, ◌-◌, ◌∙◌, ◌≡◌, ℕ, soft_row}
use Rattle.rds_tool.proofs.Spelled.{rows_next}
use Rattle.rds_tool.proofs.soft_rows.push_listed.Goals as goal

from_first : (n : ℕ) → n ≡ n - 0
from_first n = omega arith

pub loop-done-preserved : goal.loop-done-preserved
loop-done-preserved c =
    let inv = c.loop-done.invariant in
    let wrote = c.write_listed-count.ensures in
    let old = c.args.text.now.items in
    let rows = λ (n : ℕ). old ++ flat_map soft_row (take n c.args.items.now) in
    let made = rows_next soft_row old c.loop-done.text.items _ c.args.items.now 0 c.loop-done.done c.write_listed-count.result
    (omega arith) inv.few (inv.rows ∙ ap rows (from_first c.loop-done.done)) wrote.rows
    ∙ ap rows (sym (from_first _)) in
    record { rows = grind (arith, common_steps, made); few = omega (arith, wrote.few, c.len-to.ensures) }
