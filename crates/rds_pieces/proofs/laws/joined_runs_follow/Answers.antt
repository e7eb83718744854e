use Rattle.rds_pieces.proofs.RowLemmas.{joined_in_a_row}
use Rattle.rds_pieces.proofs.laws.joined_runs_follow.Goals as goal

pub returns : goal.returns
returns c = joined_in_a_row
