use Rattle.rds_sync.proofs.Names.{arith, common_steps, ◌-◌, drop, drop-drop, run}
use Rattle.rds_sync.proofs.SpanLemmas.{one_given}
use Rattle.rds_sync.proofs.item_iter.decoder_past.Goals as goal

pub loop-number-preserved : goal.loop-number-preserved
loop-number-preserved c = grind (arith, common_steps, run, one_given, drop, drop-drop, c.next-item.ensures.steps.0, c.loop-number.invariant, one_given c.loop-number.decoder.items c.next-item.new.self.items c.next-item.result c.next-item.ensures.steps.0, drop-drop 1 c.loop-number._number (run c.args.recording.now c.args.rules.now c.args.state c.args.from (c.args.to - c.args.from)).1)
