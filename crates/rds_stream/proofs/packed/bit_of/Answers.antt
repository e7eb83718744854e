use Rattle.rds_stream.proofs.Names.{◌-◌, ◌/◌, ◌%◌, get_or, shr_and_one}
use Rattle.rds_stream.proofs.packed.bit_of.Goals as goal

pub returns-clause-value : goal.returns-clause-value
returns-clause-value c = shr_and_one (get_or c.args.bytes.now (c.args.place / 8) 0) (7 - c.args.place % 8)
