use Rattle.rds_stream.proofs.Names.{common_steps, arith, sym, ◌∙◌}
use Rattle.rds_stream.proofs.WindowLists.{off_clear, off_not_stored, off_touched}
use Rattle.rds_stream.proofs.recording.Recording.offset.Goals as goal

pub returns-in_err-offset : goal.returns-in_err-offset
returns-in_err-offset c = grind (arith, common_steps, off_not_stored)

pub returns-then-touches : goal.returns-then-touches
returns-then-touches c = sym (off_touched c.args.self.now c.args.place (sym c.touches.ensures ∙ c.if-touches.true))

pub returns-else-touches : goal.returns-else-touches
returns-else-touches c = grind (arith, common_steps, off_clear)
