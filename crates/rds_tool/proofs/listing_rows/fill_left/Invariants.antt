use Rattle.rds_tool.proofs.Names.{◌+◌, ◌++◌, ◌≡◌, length, flat_map, vec_capacity, left_of, size_of, text_of, item_row}
use Rattle.rds_tool.proofs.listing_rows.fill_left.Given as goal

abbrev pub invariant-parts : goal.invariant-parts
invariant-parts l = record {
  rows : text_of l.sheet ++ flat_map item_row l.left ≡ text_of l.fn.sheet ++ flat_map item_row l.fn.left;
  left : left_of l.sheet + length l.fn.left ≡ left_of l.fn.sheet + length l.left;
  size : size_of l.sheet ≡ size_of l.fn.sheet;
  room : vec_capacity l.part ≡ vec_capacity l.fn.part;
}

abbrev pub decreases-parts : goal.decreases-parts
decreases-parts l = length l.left
