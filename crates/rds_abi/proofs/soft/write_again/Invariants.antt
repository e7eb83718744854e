use Rattle.rds_abi.proofs.Shared.{◌≡◌, drop, length, map, take, Item, symbols_of, soft_item_in_c, again_in}
use Rattle.rds_abi.proofs.soft.write_again.Given as goal

abbrev pub invariant-loop-at : goal.invariant-loop-at
invariant-loop-at l = record {
  written : take l.at l.room
      ≡ map (λ (item : Item). soft_item_in_c (again_in l.source.recording.now (symbols_of l.source.symbols.now) l.source.before l.source.margin item))
      (take l.at l.items);
  kept : drop l.at l.room ≡ drop l.at l.fn.room;
  same : length l.room ≡ length l.fn.room;
}
