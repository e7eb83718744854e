use Rattle.rds_soft.{specs.Inside.Lightest.effect as the_effect, specs.Inside.Lightest.confidence, proofs.WalkLemmas.walk_begins}
use Rattle.rds_soft.proofs.look_back.look_back.Goals as goal

pub loop-back-init : goal.loop-back-init
loop-back-init c = walk_begins the_effect (confidence c.args.confidences.now) c.args.sum c.requires.sum
