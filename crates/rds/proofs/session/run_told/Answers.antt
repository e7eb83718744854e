use Rattle.rds.proofs.Names.{◌∙◌, Some, ap, refl, given_by, read_failures, taken_by, write_failures}
use Rattle.rds.proofs.Sessions.{job_done}
use Rattle.rds.proofs.session.run_told.Goals as goal

pub returns : goal.returns
returns g c =
    let r = c.requires.reader in
    let w = c.requires.writer in
    let done = job_done _ _ _ _ _ _ _ _ c.transcribe_gated-answer.ensures
    (ap (λ sealed. given_by sealed.device) c.new-reader.ensures ∙ r.given) (ap (λ sealed. read_failures sealed.device) c.new-reader.ensures ∙ r.failures)
    (ap (λ sealed. Some (taken_by sealed.device)) c.new-writer.ensures ∙ ap (λ xs. Some xs) w.taken) (ap (λ sealed. write_failures sealed.device) c.new-writer.ensures ∙ w.failures)
    _ _ refl refl in
    rw (c.into_inner.ensures, c.into_inner-2.ensures) done
