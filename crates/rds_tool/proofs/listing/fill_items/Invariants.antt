use Rattle.rds_tool.proofs.Names.{◌+◌, ◌++◌, ◌≡◌, ◌≤◌, length, flat_map, left_of, size_of, text_of, item_row}
use Rattle.rds_tool.proofs.listing.fill_items.Given as goal

abbrev pub invariant-loop-left : goal.invariant-loop-left
invariant-loop-left l = record {
  rows : text_of l.sheet ++ flat_map item_row l.left ≡ text_of l.fn.sheet ++ flat_map item_row l.items;
  left : left_of l.sheet + length l.items ≡ left_of l.fn.sheet + length l.left;
  room : length l.left ≤ left_of l.sheet;
  size : size_of l.sheet ≡ size_of l.fn.sheet;
}

abbrev pub decreases-loop-left : goal.decreases-loop-left
decreases-loop-left l = length l.left
