use Rattle.rds_soft.proofs.Names.{common_steps, arith}
use Rattle.rds_soft.proofs.StreamLemmas.{place-stays}
use Rattle.rds_soft.proofs.near.item_in.Goals as goal

pub moved_on-requires : goal.moved_on-requires
moved_on-requires c = grind (arith, common_steps, place-stays)
