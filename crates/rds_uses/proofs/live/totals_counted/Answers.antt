use Rattle.rds_uses.proofs.Names.{HasHeard, LiveOf, report_of, subst, sym, totals_of, ◌≡◌}
use Rattle.rds_uses.proofs.live.totals_counted.Goals as goal

pub returns : goal.returns
returns g c heard is =
    subst (λ (live : LiveOf). c.finish.result.totals ≡ totals_of (report_of live.terms heard)) c.into_decoder.ensures
    (c.finish.ensures.totals heard (subst (λ (live : LiveOf). HasHeard live heard) (sym c.into_decoder.ensures) is))
