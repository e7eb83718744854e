use Rattle.rds_sync.proofs.Names.{◌≡◌, take, count_of}
use Rattle.rds_sync.proofs.counts.Counts.of.Given as goal

abbrev pub invariant-loop-item : goal.invariant-loop-item
invariant-loop-item l = l.counts ≡ count_of (take l.item-index l.items)
