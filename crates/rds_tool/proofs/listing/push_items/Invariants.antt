use Rattle.rds_tool.proofs.Names.{◌++◌, ◌≡◌, ◌≤◌, length, flat_map, item_row}
use Rattle.rds_tool.proofs.listing.push_items.Given as goal

abbrev pub invariant-loop-left : goal.invariant-loop-left
invariant-loop-left l = record {
  rows : l.text.items ++ flat_map item_row l.left ≡ l.fn.text.items ++ flat_map item_row l.items;
  few : length l.left ≤ length l.items;
}

abbrev pub decreases-loop-left : goal.decreases-loop-left
decreases-loop-left l = length l.left
