use Rattle.rds_code.proofs.LawLemmas.{lists_bursts}
use Rattle.rds_code.proofs.laws.bursts_are_listed.Goals as goal

pub returns : goal.returns
returns c = lists_bursts
