use Rattle.rds_sync.proofs.Names.{common_steps, arith, nat_le, count_ones, bad_after, are_too_many}
use Rattle.rds_sync.proofs.WordLemmas.{share-of-one}
use Rattle.rds_sync.proofs.loss.Loss.loses_by_one.Goals as goal

pub returns-in-Share-eq1-default : goal.returns-in-Share-eq1-default
returns-in-Share-eq1-default c e = grind (arith, common_steps, are_too_many, bad_after, nat_le, count_ones, share-of-one)
