use Rattle.rds_abi.proofs.Shared.{inl, inr, refl, ⊎_elim}
use Rattle.rds_abi.proofs.ranges.state_at.Goals as goal

pub returns-then-to-from-clause-refused : goal.returns-then-to-from-clause-refused
returns-then-to-from-clause-refused c = inl (refl, ⊎_elim inl (λ past. inr past.1) c.then-to-from.either)

pub returns-in-None-clause-refused : goal.returns-in-None-clause-refused
returns-in-None-clause-refused c =
    inr (refl, c.if-to-from.false, c.if-bits-to.false, c.state_of.ensures.none c.in-None.is)
