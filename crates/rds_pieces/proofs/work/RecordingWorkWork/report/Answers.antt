use Rattle.rds_pieces.proofs.Names.{ap, ◌∙◌, WorkOf, TapeState}
use Rattle.rds_pieces.proofs.work.RecordingWorkWork.report.Goals as goal

pub returns-clause-totals : goal.returns-clause-totals
returns-clause-totals c =
    rw (← ap (λ (t : TapeState). t.signal) c.new-tape.ensures ∙ ap (λ (w : WorkOf). w.recording) c.self.view_is, ← ap (λ (w : WorkOf). w.rules) c.self.view_is) c.stitch.ensures.totals
