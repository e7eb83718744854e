use Rattle.rds_code.proofs.BurstLemmas.{burst_is_one, rem_burst}
use Rattle.rds_code.proofs.laws.bursts_have_their_remainders.Goals as goal

pub returns-clause-told : goal.returns-clause-told
returns-clause-told c = burst_is_one

pub returns-clause-detected : goal.returns-clause-detected
returns-clause-detected c = rem_burst
