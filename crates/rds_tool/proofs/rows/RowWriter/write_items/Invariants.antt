use Rattle.rds_tool.proofs.Names.{◌*◌, ◌-◌, ◌≡◌, ◌≤◌, length, take, flat_map, item_row}
use Rattle.rds_tool.proofs.rows.RowWriter.write_items.Given as goal

abbrev pub invariant-loop-count : goal.invariant-loop-count
invariant-loop-count l = record {
  rows : l.self ≡ flat_map item_row (take l.count l.items);
  short : length l.self ≤ l.count * 168;
  few : l.count ≤ length l.items;
}

abbrev pub decreases-loop-count : goal.decreases-loop-count
decreases-loop-count l = length l.items - l.count
