use Rattle.rds_soft.proofs.Names.{◌∙◌}
use Rattle.rds_soft.proofs.again.group_again.Goals as goal

pub returns-in-Some : goal.returns-in-Some
returns-in-Some c = c.of_blocks.ensures ∙ c.in-Some.ensures _ _ _ _
