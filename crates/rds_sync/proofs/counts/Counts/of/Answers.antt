use Rattle.rds_sync.proofs.TotalsLemmas.{count-next}
use Rattle.rds_sync.proofs.counts.Counts.of.Goals as goal
use Rattle.std.proofs.Common.{sym}

pub loop-item-preserved : goal.loop-item-preserved
loop-item-preserved c =
    count-next c.args.items.now c.loop-item.item-index _ _ c.loop-item-test.true (sym c.item-item.is) c.loop-item.counts c.add_item.new.self c.loop-item.invariant c.add_item.ensures
