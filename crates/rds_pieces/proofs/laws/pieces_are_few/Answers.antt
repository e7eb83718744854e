use Rattle.rds_pieces.proofs.RowLemmas.{pieces_few}
use Rattle.rds_pieces.proofs.laws.pieces_are_few.Goals as goal

pub returns : goal.returns
returns c = pieces_few
