use Rattle.rds_tool.proofs.Names.{◌+◌, ◌++◌, ◌≡◌, length, flat_map, left_of, size_of, text_of, item_row}
use Rattle.rds_tool.proofs.listing_rows.fill_each.Given as goal

abbrev pub invariant-loop-item : goal.invariant-loop-item
invariant-loop-item l = record {
  rows : text_of l.sheet ++ flat_map item_row l.item-iterator ≡ text_of l.initial.sheet ++ flat_map item_row l.fn.left;
  left : left_of l.sheet + length l.fn.left ≡ left_of l.initial.sheet + length l.item-iterator;
  size : size_of l.sheet ≡ size_of l.initial.sheet;
}
