use Rattle.rds_tool.proofs.Names.{◌∙◌, Bool, Ok, Task, ap, encoded_text}
use Rattle.rds_tool.specs.declared.task.Task.TheVariants as task
use Rattle.rds_tool.proofs.engine.transcribe_task.Goals as goal

pub returns-in-Totals : goal.returns-in-Totals
returns-in-Totals g c = λ job is. c.transcribe_totals.ensures job (is ∙ ap (λ (t : Task). Ok t) c.in-Totals.is)

pub returns-in-Soft : goal.returns-in-Soft
returns-in-Soft g c = λ job is. c.transcribe_soft.ensures job (is ∙ ap (λ (t : Task). Ok t) c.in-Soft.is)

pub returns-in-Encode : goal.returns-in-Encode
returns-in-Encode g c = λ job is.
    c.transcribe_by.ensures job (task.Encode c.in-Encode.hex) (is ∙ ap (λ (t : Task). Ok t) c.in-Encode.is)
    (λ bytes. ap (λ (h : Bool). encoded_text h bytes) c.new.ensures.hex)
