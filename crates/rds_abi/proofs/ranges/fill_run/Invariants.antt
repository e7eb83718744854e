use Rattle.rds_abi.proofs.Shared.{◌≡◌, ◌++◌, ◌+◌, ◌<◌, ◌^◌, drop, length, map, take, All, Item, moved_items, place_of, item_in_c}
use Rattle.rds_abi.proofs.ranges.fill_run.Given as goal

abbrev pub invariant-loop-item : goal.invariant-loop-item
invariant-loop-item l = record {
  written : take l.at l.room ++ map item_in_c (moved_items l.by l.item-iterator.items) ≡ map item_in_c (moved_items l.by l.fn.items.items);
  kept : drop l.at l.room ≡ drop l.at l.fn.room;
  same : length l.room ≡ length l.fn.room;
  count : l.at + length l.item-iterator.items ≡ length l.fn.items.items;
  early : All (λ (item : Item). place_of item < 2 ^ 36) l.item-iterator.items;
}
