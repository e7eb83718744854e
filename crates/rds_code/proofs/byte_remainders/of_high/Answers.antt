use Rattle.std.proofs.Common.{arith}
use Rattle.rds_code.proofs.ByteRemainders.{high}
use Rattle.rds_code.proofs.byte_remainders.of_high.Goals as goal

pub returns : goal.returns
returns c = high c.args.byte (omega arith)
