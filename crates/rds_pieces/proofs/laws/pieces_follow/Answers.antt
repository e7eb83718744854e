use Rattle.rds_pieces.proofs.RowLemmas.{pieces_in_a_row}
use Rattle.rds_pieces.proofs.laws.pieces_follow.Goals as goal

pub returns : goal.returns
returns c = pieces_in_a_row
