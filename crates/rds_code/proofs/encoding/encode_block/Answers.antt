use Rattle.rds_code.proofs.Names.{common_steps, arith, or_shifted}
use Rattle.rds_code.proofs.EncodingLemmas.{encoded_is, checkword-lt}
use Rattle.rds_code.proofs.encoding.encode_block.Goals as goal

pub returns-clause-value : goal.returns-clause-value
returns-clause-value c = grind (arith, common_steps, or_shifted, checkword-lt)

pub returns-clause-block : goal.returns-clause-block
returns-clause-block c = grind (arith, common_steps, returns-clause-value, encoded_is)
