use Rattle.rds_sync.proofs.Converge.{sound_ranges_have_fours, runs_converge}
use Rattle.rds_sync.proofs.laws.runs_converge.Goals as goal

pub returns-clause-fours : goal.returns-clause-fours
returns-clause-fours c = sound_ranges_have_fours

pub returns-clause-converge : goal.returns-clause-converge
returns-clause-converge c = runs_converge
