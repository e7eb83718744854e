use Rattle.rds_tool.proofs.{Passing.passed, Transcribing.at_settings}
use Rattle.rds_tool.proofs.engine.transcribe_gated.Goals as goal

pub returns-in_err-task : goal.returns-in_err-task
returns-in_err-task g c =
    at_settings g.S.Source g.K.Sink c.args.job.now _ _ _ c.in_err-task.field-0.0 (passed _ _ c.from_residual.ensures) c.in_err-task.ensures.refused c.in_err-task.ensures.settings

pub returns : goal.returns
returns g c = c.transcribe_task.ensures c.args.job.now c.in_ok-task.ensures.ok
