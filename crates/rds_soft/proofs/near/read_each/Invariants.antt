use Rattle.rds_soft.proofs.Names.{◌≡◌, map, take, near_again}
use Rattle.rds_soft.proofs.near.read_each.Given as goal

abbrev pub invariant-loop-item : goal.invariant-loop-item
invariant-loop-item l = record {
  same : l.list ≡ map (near_again l.near) (take l.item-index l.items);
}
