use Rattle.rds.proofs.Sessions.{terms_refused}
use Rattle.rds.proofs.session.rules_for.Goals as goal

pub returns-in-Err-clause-refused : goal.returns-in-Err-clause-refused
returns-in-Err-clause-refused c =
    let of = c.in-Err.ensures in
    terms_refused _ _ c.args.workers c.in-Err.error of.only of.burst_range.0 (λ p. (of.reach_range.0 p).1) (λ p. (of.loss_range.0 p).3) (λ p. (of.share_range.0 p).3)
