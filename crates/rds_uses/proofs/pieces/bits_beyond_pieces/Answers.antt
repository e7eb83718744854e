use Rattle.rds_uses.proofs.Names.{arith, length_of}
use Rattle.rds_uses.proofs.pieces.bits_beyond_pieces.Goals as goal

pub returns : goal.returns
returns c = omega (arith, c.pieces_are_few.ensures (length_of c.args.recording.now) c.args.cutting.now c.requires)
