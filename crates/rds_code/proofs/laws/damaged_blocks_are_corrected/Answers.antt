use Rattle.rds_code.proofs.CorrectionLemmas.{corrects_burst, corrects_third, takes_other_version}
use Rattle.rds_code.proofs.laws.damaged_blocks_are_corrected.Goals as goal

pub returns-clause-corrected : goal.returns-clause-corrected
returns-clause-corrected c = corrects_burst

pub returns-clause-third : goal.returns-clause-third
returns-clause-third c = corrects_third

pub returns-clause-but_one : goal.returns-clause-but_one
returns-clause-but_one c = takes_other_version
