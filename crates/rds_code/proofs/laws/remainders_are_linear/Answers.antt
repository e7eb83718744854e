use Rattle.rds_code.proofs.RemainderLemmas.{rem-xor}
use Rattle.rds_code.proofs.laws.remainders_are_linear.Goals as goal

pub returns : goal.returns
returns c = rem-xor
