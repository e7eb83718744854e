use Rattle.rds_abi.proofs.Shared.{◌≡◌, ◌++◌, ◌+◌, drop, length, map, take, item_in_c}
use Rattle.rds_abi.proofs.whole.fill.Given as goal

abbrev pub invariant-loop-item : goal.invariant-loop-item
invariant-loop-item l = record {
  written : take l.at l.room ++ map item_in_c l.item-iterator ≡ map item_in_c l.fn.items;
  kept : drop l.at l.room ≡ drop l.at l.fn.room;
  same : length l.room ≡ length l.fn.room;
  count : l.at + length l.item-iterator ≡ length l.fn.items;
}
