use Rattle.rds_soft.proofs.Names.{◌≡◌, ◌++◌, take}
use Rattle.rds_soft.proofs.soft_list.SoftList.append.Given as goal

abbrev pub invariant-loop-i : goal.invariant-loop-i
invariant-loop-i l = record {
  same : l.self ≡ l.fn.self ++ take l.i l.more;
}
