use Rattle.rds_pieces.proofs.joining.join_over.Goals as goal

pub with_rest-requires-clause-totals : goal.with_rest-requires-clause-totals
with_rest-requires-clause-totals c =
    rw (← c.end_state-state.ensures, c.requires.left_is.0, c.requires.left_is.1, c.requires.next, ← c.range-from.ensures.first) c.in_ok-end_state.ensures.totals
