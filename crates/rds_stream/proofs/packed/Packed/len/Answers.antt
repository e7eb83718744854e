use Rattle.std.proofs.Common.{sym}
use Rattle.rds_stream.proofs.Places.{length-bits_of}
use Rattle.rds_stream.proofs.packed.Packed.len.Goals as goal

pub returns-clause-value : goal.returns-clause-value
returns-clause-value c = rw (← c.self.view_is) (sym (length-bits_of _ _))
