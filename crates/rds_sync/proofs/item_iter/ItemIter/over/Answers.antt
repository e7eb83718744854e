use Rattle.std.proofs.Common.{length-drop}
use Rattle.rds_sync.proofs.Names.{common_steps, drop, arith, drop-drop, items_in}
use Rattle.rds_sync.proofs.SpanLemmas.{gives_some}
use Rattle.rds_sync.proofs.item_iter.ItemIter.over.Goals as goal

pub loop-number-preserved : goal.loop-number-preserved
loop-number-preserved c = grind (arith, common_steps, items_in, length-drop, gives_some, drop, drop-drop, c.loop-number.invariant.1, c.requires.within, c.loop-number-test.true, c.next_in-item.ensures.spans, c.next_in-item.ensures.first, length-drop c.loop-number._number (items_in c.args.recording.now c.args.rules.now c.args.spans.now), drop-drop 1 c.loop-number._number (items_in c.args.recording.now c.args.rules.now c.args.spans.now))
