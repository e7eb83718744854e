use Rattle.rds_soft.proofs.Names.{◌-◌, the_effect, confidence, IsWalk}
use Rattle.rds_soft.proofs.look_back.look_back.Given as goal

abbrev pub invariant-loop-back : goal.invariant-loop-back
invariant-loop-back l = IsWalk the_effect (confidence l.confidences) l.sum (27 - l.back) l.walk.left l.walk.flips l.walk.weight l.walk.others
