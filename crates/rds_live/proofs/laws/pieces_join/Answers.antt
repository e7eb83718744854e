use Rattle.rds_live.proofs.Pieces.{completed-both, next-both}
use Rattle.rds_live.proofs.laws.pieces_join.Goals as goal

pub returns : goal.returns
returns c live first second range known = (
  next-both c.runs_join.ensures c.runs_are_lawful.ensures c.runs_move.ensures live first second range known c.totals_join.ensures,
  completed-both c.runs_join.ensures c.runs_are_lawful.ensures c.runs_move.ensures live first second range known,
)
