use Rattle.rds_tool.proofs.Names.{◌*◌, ◌-◌, ◌≡◌, ◌≤◌, drop, length, take, flat_map, soft_row}
use Rattle.rds_tool.proofs.rows.RowWriter.write_listed.Given as goal

abbrev pub invariant-loop-at : goal.invariant-loop-at
invariant-loop-at l = record {
  rows : l.self ≡ flat_map soft_row (take (l.at - l.from) (drop l.from l.items));
  short : length l.self ≤ (l.at - l.from) * 168;
  order : l.from ≤ l.at;
  few : l.at ≤ l.to;
}

abbrev pub decreases-loop-at : goal.decreases-loop-at
decreases-loop-at l = l.to - l.at
