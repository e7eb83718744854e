use Rattle.rds_sync.proofs.Names.{◌≡◌, ◌-◌, sym, subst, State, IsConverged, run}
use Rattle.rds_sync.proofs.collected.run.Goals as goal

pub returns-clause-converged : goal.returns-clause-converged
returns-clause-converged c =
    let b = c.args.rec.now in
    let rules = c.args.rules.now in
    let from = c.args.from in
    let to = c.args.to in
    let same : c.end_state.result ≡ (run b rules c.args.state from (to - from)).0 = cc in
    subst (λ (t : State). IsConverged b rules from to t) (sym same)
    (c.runs_converge.ensures.converge b rules c.reach.ensures.range.loss.0 c.reach.ensures.range.some_reach from to c.args.state c.requires.lawful)
