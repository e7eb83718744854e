use Rattle.rds.proofs.Names.{Some, ap, refl}
use Rattle.rds.proofs.Sessions.{stream_followed, stream_refused}
use Rattle.rds.proofs.session.run_stream.Goals as goal

pub returns-in-Ok : goal.returns-in-Ok
returns-in-Ok g c =
    let r = c.requires.reader in
    let w = c.requires.writer in
    let followed = stream_followed _ _ _ c.in-Ok.rules c.args.workers _ _ _ _ _ _ c.follow_asked-answer.ensures r.given r.failures (ap (λ xs. Some xs) w.taken) w.failures refl in
    rw c.in-Ok.ensures.numbers at followed

pub returns-in-Err : goal.returns-in-Err
returns-in-Err g c =
    let r = c.requires.reader in
    let w = c.requires.writer in
    rw (r.given, r.ended, r.failures, w.taken, w.flushed, w.failures)
    (stream_refused _ c.args.workers c.in-Err.error c.in-Err.ensures.refused c.args.input.now.gaps c.args.input.now.bits c.args.margin)
