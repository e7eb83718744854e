use Rattle.rds_stream.proofs.Names.{arith, common_steps}
use Rattle.rds_stream.proofs.{Places.window_of_bytes, packed.early_window.Goals.then-place-eq0, packed.early_window.Goals.else-place-eq0}
use Rattle.rds_stream.proofs.packed.early_window.Goals as goal

pub returns-clause-value : goal.returns-clause-value
returns-clause-value c bits within = grind (arith, common_steps, then-place-eq0, else-place-eq0, window_of_bytes)
