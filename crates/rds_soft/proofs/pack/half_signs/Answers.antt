use Rattle.rds_soft.proofs.Names.{sign_at}
use Rattle.rds_soft.proofs.PackLemmas.{joined_low_bit}
use Rattle.rds_soft.proofs.pack.half_signs.Goals as goal

pub returns-clause-each : goal.returns-clause-each
returns-clause-each c =
    joined_low_bit (sign_at c.args.symbols.now) c.signs_from-high.result c.signs_from-low.result 16 c.args.from
    c.signs_from-high.ensures c.signs_from-low.ensures
