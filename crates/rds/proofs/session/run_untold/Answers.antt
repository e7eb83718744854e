use Rattle.std.proofs.Common.{Some, ap, refl}
use Rattle.rds.proofs.Sessions.{job_done}
use Rattle.rds.proofs.session.run_untold.Goals as goal

pub returns : goal.returns
returns g c =
    let r = c.requires.reader in
    let w = c.requires.writer in
    job_done _ _ _ _ _ _ _ _ c.transcribe-answer.ensures r.given r.failures (ap (λ xs. Some xs) w.taken) w.failures _ _ refl refl
