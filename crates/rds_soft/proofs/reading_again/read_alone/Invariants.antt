use Rattle.rds_soft.proofs.Names.{◌≡◌, length, map, take, near_again}
use Rattle.rds_soft.proofs.reading_again.read_alone.Given as goal

abbrev pub invariant-loop-i : goal.invariant-loop-i
invariant-loop-i l = record {
  long : length l.again ≡ length l.items;
  done : take l.i l.again ≡ map (near_again l.near) (take l.i l.items);
}
