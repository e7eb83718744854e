use Rattle.rds_tool.proofs.Names.{◌++◌, ◌≡◌, ◌≤◌, ◌-◌, length, take, flat_map, soft_row}
use Rattle.rds_tool.proofs.soft_rows.push_listed.Given as goal

abbrev pub invariant-loop-done : goal.invariant-loop-done
invariant-loop-done l = record {
  rows : l.text.items ≡ l.fn.text.items ++ flat_map soft_row (take l.done l.items);
  few : l.done ≤ length l.items;
}

abbrev pub decreases-loop-done : goal.decreases-loop-done
decreases-loop-done l = length l.items - l.done
