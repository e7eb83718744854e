use Rattle.rds_sync.proofs.Lemmas.{arith, tally-gone, view-gone}
use Rattle.rds_sync.proofs.tally.Tally.go_on.Goals as goal

pub invariant_of-self : goal.invariant_of-self
invariant_of-self c =
    tally-gone c.self.invariant c.self.view_is c.requires.source c.requires.rules c.count_stretch-place.ensures.reached c.requires.within (omega (arith, c.if-prove.false, c.len.ensures.limit))
    (record { totals = c.settle.new.totals; items = c.settle.new.added }) c.settle.new.counts c.settle.ensures.same c.settle.ensures.few c.settle.ensures.small

pub returns-clause-state : goal.returns-clause-state
returns-clause-state c = view-gone c.self.invariant c.self.view_is c.requires.source c.requires.rules c.count_stretch-place.ensures.reached c.end_long_span.new.self c.end_long_span.ensures.same
