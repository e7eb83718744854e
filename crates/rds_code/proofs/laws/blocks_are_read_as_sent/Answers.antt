use Rattle.rds_code.proofs.{LawLemmas.has_one_block, CorrectionLemmas.reads_as_sent}
use Rattle.rds_code.proofs.laws.blocks_are_read_as_sent.Goals as goal

pub returns-clause-one : goal.returns-clause-one
returns-clause-one c = has_one_block

pub returns-clause-valid : goal.returns-clause-valid
returns-clause-valid c = reads_as_sent
