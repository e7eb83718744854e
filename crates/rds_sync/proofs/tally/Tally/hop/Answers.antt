use Rattle.rds_sync.proofs.Lemmas.{arith, tally-gone, view-gone}
use Rattle.rds_sync.proofs.tally.Tally.hop.Goals as goal

pub invariant_of-self : goal.invariant_of-self
invariant_of-self g c =
    tally-gone c.self.invariant c.self.view_is c.requires.source c.requires.rules c.hop-place.ensures.came c.requires.within (omega (arith, c.if-prove.false, c.len.ensures.limit))
    (record { totals = c.settle.new.totals; items = c.settle.new.added }) c.settle.new.counts c.settle.ensures.same c.settle.ensures.few c.settle.ensures.small

pub returns-clause-state : goal.returns-clause-state
returns-clause-state g c = view-gone c.self.invariant c.self.view_is c.requires.source c.requires.rules c.hop-place.ensures.came c.end_long_span.new.self c.end_long_span.ensures.same
