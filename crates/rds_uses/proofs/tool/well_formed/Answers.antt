use Rattle.rds_uses.proofs.Outcomes.{alike, before-totals, begun, well-formed}
use Rattle.rds_uses.proofs.tool.well_formed.Goals as goal

pub returns-clause-rows : goal.returns-clause-rows
returns-clause-rows g c = well-formed c.lists_are_well_formed.ensures c.args.list.now c.args.held.now c.in_ok-text.text.items c.in_ok-text.ensures

pub returns-clause-begun : goal.returns-clause-begun
returns-clause-begun g c = begun c.rows_begin_lists.ensures c.args.list.now c.args.held.now c.in_ok-text.text.items c.in_ok-text.ensures

pub returns-clause-alike : goal.returns-clause-alike
returns-clause-alike g c = λ input settings is bytes differ.
    alike c.gaps_hide_bits.ensures c.args.list.now input settings c.args.held.now c.args.other.now c.in_ok-text.text.items c.in_ok-same.same.items
    is bytes differ c.in_ok-text.ensures c.in_ok-same.ensures

pub returns-clause-counted : goal.returns-clause-counted
returns-clause-counted g c = λ input settings first next.
    before-totals c.lists_end_with_totals.ensures input settings c.args.list.now c.args.totals.now c.args.held.now
    c.in_ok-text.text.items c.in_ok-counts.counts.items first next c.in_ok-text.ensures c.in_ok-counts.ensures
