use Rattle.rds.proofs.ended.do_as_asked.Goals as goal

pub invariant_of-result : goal.invariant_of-result
invariant_of-result g c = record { answered = ∣ (c.asked_for-asked.ensures, c.done_for-done.ensures) ∣₁ }
