use Rattle.rds_soft.proofs.Names.{◌*◌, get_or-chunk}
use Rattle.rds_soft.proofs.lightest.block_of.Goals as goal

pub returns-clause-each : goal.returns-clause-each
returns-clause-each c j less = get_or-chunk (16 * c.args.block) 16 c.args.row.now j 0 less
