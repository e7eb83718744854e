use Rattle.rds_uses.proofs.Names.{IfOk-weaker, Item, List, State, ap, arith, length, run, ℕ, ◌*◌, ◌-◌, ◌∙◌, ◌≡◌}
use Rattle.rds_uses.proofs.sent.decoded_in_lock.Goals as goal

pub returns-clause-locked : goal.returns-clause-locked
returns-clause-locked c =
    let b = c.args.recording.now in
    let rules = c.args.rules.now in
    let from = c.args.from in
    IfOk-weaker c.run.result _ _ (λ run_was given bad groups locked between.
    let bits : c.args.to - from ≡ 104 * length groups = omega (arith, between.end) in
    let law = c.damaged_groups_are_listed.ensures.locked b rules (omega (arith, c.burst.ensures.range.burst)) from bad groups between.heard between.kept in
    given ∙ ap (λ (n : ℕ). (run b rules c.args.state from n).1) bits
    ∙ ap (λ (s : State). (run b rules s from (104 * length groups)).1) locked ∙ ap (λ (r : State × List Item). r.1) law)
    c.run.ensures.items
