use Rattle.rds_tool.proofs.Names.{◌+◌, ◌++◌, ◌-◌, ◌≡◌, ◌≤◌, drop, take, flat_map, left_of, size_of, text_of, soft_row}
use Rattle.rds_tool.proofs.soft_rows.SoftRows.fill_items.Given as goal

abbrev pub invariant-loop-done : goal.invariant-loop-done
invariant-loop-done l = record {
  rows : text_of l.sheet ≡ text_of l.fn.sheet ++ flat_map soft_row (take (l.done - l.from) (drop l.from l.self.items.now));
  left : left_of l.sheet + (l.done - l.from) ≡ left_of l.fn.sheet;
  order : l.from ≤ l.done;
  few : l.done ≤ l.to;
  size : size_of l.sheet ≡ size_of l.fn.sheet;
}

abbrev pub decreases-loop-done : goal.decreases-loop-done
decreases-loop-done l = l.to - l.done
