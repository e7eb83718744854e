use Rattle.rds_crew.proofs.Names.{common_steps, arith}
use Rattle.rds_crew.proofs.team.make_all.Goals as goal

pub new-requires-2 : goal.new-requires-2
new-requires-2 = grind (arith, common_steps)

pub draw-requires : goal.draw-requires
draw-requires = grind (arith, common_steps)
