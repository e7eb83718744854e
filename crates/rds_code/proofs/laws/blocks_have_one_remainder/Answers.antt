use Rattle.rds_code.proofs.RemainderLemmas.{rem-is, remainder_is_one}
use Rattle.rds_code.proofs.laws.blocks_have_one_remainder.Goals as goal

pub returns-clause-some : goal.returns-clause-some
returns-clause-some c = rem-is

pub returns-clause-one : goal.returns-clause-one
returns-clause-one c = remainder_is_one
