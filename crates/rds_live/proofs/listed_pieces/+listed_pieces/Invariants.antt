use Rattle.rds_live.proofs.Names.{◌+◌, ◌*◌, length}
use Rattle.rds_live.proofs.listed_pieces.+listed_pieces.Given as goal

abbrev pub decreases-list_pieces : goal.decreases-list_pieces
decreases-list_pieces g l = 3 * length l.bytes.now

abbrev pub decreases-list_both : goal.decreases-list_both
decreases-list_both g l = 3 * length l.front.now + 2

abbrev pub decreases-list_both-before : goal.decreases-list_both-before
decreases-list_both-before g l = 3 * length l.front.now + 1
