use Rattle.std.proofs.Common.{arith}
use Rattle.rds_code.proofs.ByteRemainders.{middle}
use Rattle.rds_code.proofs.byte_remainders.of_middle.Goals as goal

pub returns : goal.returns
returns c = middle c.args.byte (omega arith)
