use Rattle.rds_abi.proofs.Shared.{◌≡◌, drop, length, map, take, item_in_c}
use Rattle.rds_abi.proofs.stream.fill_room.Given as goal

abbrev pub invariant-loop-at : goal.invariant-loop-at
invariant-loop-at l = record {
  written : take l.at l.room ≡ map item_in_c (take l.at l.fn.items);
  kept : drop l.at l.room ≡ drop l.at l.fn.room;
  same : length l.room ≡ length l.fn.room;
}
