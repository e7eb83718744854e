use Rattle.rds_code.proofs.Names.{ℕ, ◌<◌, length, subst, arith, IsEntry}
use Rattle.rds_code.proofs.OutcomeLemmas.{entry_of}
use Rattle.rds_code.proofs.outcomes.Outcomes.entry.Goals as goal

pub returns-clause-entry : goal.returns-clause-entry
returns-clause-entry c =
    let d : ℕ = c.sum_with.result in
    let entries = c.self.inside.entries.items in
    let within : d < length entries = omega (arith, c.sum_with.ensures.small, c.self.invariant.long) in
    subst (λ (n : ℕ). IsEntry c.args.self.now n c.index.result.now) c.sum_with.ensures.value
    (subst (λ (limit : ℕ). IsEntry limit d c.index.result.now) c.self.view_is
    (entry_of c.self.inside.limit entries d c.index.result.now within c.index.ensures c.self.invariant.each))
