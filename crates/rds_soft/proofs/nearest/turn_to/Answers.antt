use Rattle.rds_soft.proofs.NearestLemmas.{walk_ends, walk_fails}
use Rattle.rds_soft.proofs.nearest.turn_to.Goals as goal

pub returns-then-walk-eq0 : goal.returns-then-walk-eq0
returns-then-walk-eq0 c = walk_ends c.args.w c.args.confidences.now c.args.offset _ _ _ _ _ c.look_back-walk.ensures c.sum_of.ensures.value c.if-walk-eq0.true

pub returns-else-walk-eq0 : goal.returns-else-walk-eq0
returns-else-walk-eq0 c = walk_fails c.args.w c.args.confidences.now c.args.offset _ _ _ _ _ c.look_back-walk.ensures c.sum_of.ensures.value c.if-walk-eq0.false
