use Rattle.rds_soft.proofs.Names.{arith, item_again}
use Rattle.rds_soft.proofs.{AgainLemmas.list_of_four, ListLemmas.valid_again}
use Rattle.rds_soft.proofs.near.valid_in.Goals as goal

pub returns-clause-early : goal.returns-clause-early
unfolding item_again
returns-clause-early = grind (arith, list_of_four, valid_again)

pub returns-clause-value : goal.returns-clause-value
unfolding item_again
returns-clause-value = grind (arith, list_of_four, valid_again)
