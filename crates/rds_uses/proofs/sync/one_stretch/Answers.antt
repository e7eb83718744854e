use Rattle.rds_uses.proofs.Names.{le-leb, subst, sym, ℕ, ◌≤◌}
use Rattle.rds_uses.proofs.sync.one_stretch.Goals as goal

pub returns-clause-no_further : goal.returns-clause-no_further
returns-clause-no_further c =
    let far = c.stretch-far.result in
    let law = c.steps_agree.ensures.stretches c.args.reader.now c.args.rules.now c.args.state c.args.place c.args.to far c.requires.lawful c.stretch-far.ensures.reached in
    le-leb c.advance-step.result.place far.place (subst (λ (next : ℕ). next ≤ far.place) (sym c.advance-step.ensures.place) law.0)
