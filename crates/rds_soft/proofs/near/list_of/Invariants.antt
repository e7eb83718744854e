use Rattle.rds_soft.proofs.Names.{◌≡◌, take}
use Rattle.rds_soft.proofs.near.list_of.Given as goal

abbrev pub invariant-loop-item : goal.invariant-loop-item
invariant-loop-item l = record {
  same : l.list ≡ take l.item-index l.items;
}
