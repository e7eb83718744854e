use Rattle.rds_sync.proofs.Names.{common_steps, arith, append_assoc, length-append, plus, totals_of}
use Rattle.rds_sync.proofs.TotalsLemmas.{totals_of_append}
use Rattle.rds_sync.proofs.totals.Totals.of.Goals as goal

pub loop-rest-preserved : goal.loop-rest-preserved
loop-rest-preserved c = grind (arith, common_steps, totals_of, length-append, append_assoc, plus, totals_of_append, c.loop-rest.invariant, c.totals.ensures.value, c.of.ensures, c.loop-rest.invariant.first, c.loop-rest.invariant.parted, c.split_at.ensures.by_index.0, c.plus-totals.ensures.value, c.loop-rest.invariant.so_far, c.plus-totals.ensures.small, c.loop-rest.invariant.small, c.totals.ensures.small, length-append c.loop-rest.invariant.first c.split_at.result.0.now, append_assoc c.loop-rest.invariant.first c.split_at.result.0.now c.split_at.result.1.now, totals_of_append c.loop-rest.invariant.first c.split_at.result.0.now)

pub returns-clause-value : goal.returns-clause-value
returns-clause-value = grind (arith, common_steps)

pub plus-totals-requires : goal.plus-totals-requires
plus-totals-requires = grind (arith, common_steps)

pub returns-clause-small : goal.returns-clause-small
returns-clause-small = grind (arith, common_steps)
