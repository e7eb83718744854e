use Rattle.rds_tool.proofs.Names.{◌*◌, ◌≡◌, ◌≤◌, length, map, take, flat_map, total_row}
use Rattle.rds_tool.proofs.rows.RowWriter.write_totals.Given as goal

abbrev pub invariant-loop-name : goal.invariant-loop-name
invariant-loop-name l = record {
  rows : l.self ≡ flat_map total_row (map (λ total. (total.0.now, total.1)) (take l.name-index l.totals));
  short : length l.self ≤ l.name-index * 168;
}
