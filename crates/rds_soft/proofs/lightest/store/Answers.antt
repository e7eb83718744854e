use Rattle.rds_soft.proofs.Names.{common_steps, ◌*◌, arith, get_or-put_chunk_at, get_or-put_chunk_below}
use Rattle.rds_soft.proofs.lightest.store.Goals as goal

pub returns-clause-here : goal.returns-clause-here
returns-clause-here c j less = grind (arith, common_steps, get_or-put_chunk_at)

pub returns-clause-below : goal.returns-clause-below
returns-clause-below c s less = get_or-put_chunk_below (16 * c.args.block) c.args.next.now c.args.lanes s 0 less
