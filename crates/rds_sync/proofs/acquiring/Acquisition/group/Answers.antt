use Rattle.rds_sync.proofs.Lemmas.{common_steps, arith, reading_heard, group-alone}
use Rattle.rds_sync.proofs.acquiring.Acquisition.group.Goals as goal

pub returns : goal.returns
returns c = grind (arith, common_steps, group-alone, reading_heard)
