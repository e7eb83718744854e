use Rattle.rds_uses.proofs.Names.{arith, xor_lt}
use Rattle.rds_uses.proofs.code.damaged.Goals as goal

pub returns-clause-block : goal.returns-clause-block
returns-clause-block c = omega (arith, xor_lt 26 c.args.sent c.args.damage c.requires.sent c.requires.damage)
