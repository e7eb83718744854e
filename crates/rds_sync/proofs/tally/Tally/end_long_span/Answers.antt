use Rattle.rds_sync.proofs.Lemmas.{arith, common_steps, ap, ItemsOf, tally-cut}
use Rattle.rds_sync.proofs.tally.Tally.end_long_span.Goals as goal

pub invariant_of-self-then-items-most_in_one : goal.invariant_of-self-then-items-most_in_one
invariant_of-self-then-items-most_in_one c = grind (arith, common_steps, tally-cut, c.in_ok-push_span.ensures.ok, c.self.invariant, tally-cut c.self.invariant c.push_span.new.self.list (ap (λ (items : ItemsOf). items.list) c.in_ok-push_span.ensures.ok))

pub overflow_sub-items : goal.overflow_sub-items
overflow_sub-items = grind (arith, common_steps)

pub push_span-requires-clause-count : goal.push_span-requires-clause-count
push_span-requires-clause-count = grind (arith, common_steps)

pub invariant_of-self : goal.invariant_of-self
invariant_of-self = grind (arith, common_steps)
