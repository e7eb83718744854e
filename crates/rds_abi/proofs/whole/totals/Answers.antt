use Rattle.rds_abi.proofs.Shared.{ap, refl, ◌∙◌, totals_in_c}
use Rattle.rds_abi.proofs.whole.totals.Goals as goal

pub returns-in-Ok-clause-found : goal.returns-in-Ok-clause-found
returns-in-Ok-clause-found c =
    let input = c.in_ok-input.ensures in
    c.totals_in_c.ensures ∙ ap totals_in_c (rw (c.in-Ok.ensures.totals, input.recording, input.rules) refl)
