use Rattle.rds_live.proofs.Names.{◌+◌, ◌*◌, length}
use Rattle.rds_live.proofs.counted_pieces.+counted_pieces.Given as goal

abbrev pub decreases-count_pieces : goal.decreases-count_pieces
decreases-count_pieces g l = 3 * length l.bytes.now

abbrev pub decreases-count_both : goal.decreases-count_both
decreases-count_both g l = 3 * length l.front.now + 2

abbrev pub decreases-count_both-before : goal.decreases-count_both-before
decreases-count_both-before g l = 3 * length l.front.now + 1
