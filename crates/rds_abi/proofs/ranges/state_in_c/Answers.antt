use Rattle.rds_abi.proofs.Shared.{common_steps, ◌≡◌, ℕ, arith, sym, ◌∙◌, AreInOrder, Locked, state_of}
use Rattle.rds_abi.proofs.ranges.state_in_c.Goals as goal

-- a lawful lock waits for a block that has a number
says : (due number bad first n f loss of : ℕ) → n ≡ number → f ≡ first → AreInOrder first number
    → state_of (record { due = due; bad = bad; number = n; first = f; loss = loss; of = of; reserved = 0 })
    ≡ Locked (record { due = due; number = number; bad = bad; first = first })
says due number bad first n f loss of n_is f_is order = grind (arith, common_steps)

pub returns-in-Locked-clause-says : goal.returns-in-Locked-clause-says
returns-in-Locked-clause-says c rules place lawful =
    let lock = c.in-Locked.lock in
    let is = rw c.in-Locked.is at lawful in
    says lock.due lock.number lock.bad lock.first c.from.result c.from-in-Locked.result c.loss_in_c-loss.result.0 c.loss_in_c-loss.result.1
    c.from.ensures c.from-in-Locked.ensures is.in_order ∙ sym c.in-Locked.is
