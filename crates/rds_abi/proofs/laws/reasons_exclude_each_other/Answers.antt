use Rattle.rds_abi.proofs.Exclusion.{reasons-exclude}
use Rattle.rds_abi.proofs.laws.reasons_exclude_each_other.Goals as goal

pub returns : goal.returns
returns c = reasons-exclude
