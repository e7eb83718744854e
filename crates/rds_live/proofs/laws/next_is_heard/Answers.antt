use Rattle.rds_live.proofs.NextHeard.{next-heard}
use Rattle.rds_live.proofs.laws.next_is_heard.Goals as goal

pub returns : goal.returns
returns c live before bytes range known heard =
    next-heard c.runs_move.ensures c.totals_join.ensures live.terms range known.gaps c.pieces_join.ensures live before bytes heard
