use Rattle.rds_live.proofs.Names.{◌≡◌, drop, length, take, moved_items}
use Rattle.rds_live.proofs.moved.move_on.Given as goal

abbrev pub invariant-loop-i : goal.invariant-loop-i
invariant-loop-i l = record {
  moved : take l.i l.items ≡ moved_items l.by (take l.i l.initial.items);
  left : drop l.i l.items ≡ drop l.i l.initial.items;
  same : length l.items ≡ length l.initial.items;
}
