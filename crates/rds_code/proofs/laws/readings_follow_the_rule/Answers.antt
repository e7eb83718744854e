use Rattle.rds_code.proofs.LawLemmas.{reads_by_rule}
use Rattle.rds_code.proofs.laws.readings_follow_the_rule.Goals as goal

pub returns : goal.returns
returns c = reads_by_rule
