use Rattle.rds_soft.proofs.Names.{◌+◌, ◌*◌, length}
use Rattle.rds_soft.proofs.reading_again.+halves.Given as goal

abbrev pub decreases-read_all : goal.decreases-read_all
decreases-read_all g l = 2 * length l.others.now

abbrev pub decreases-here : goal.decreases-here
decreases-here g l = 2 * length l.with_mine.now + 1

abbrev pub decreases-there : goal.decreases-there
decreases-there g l = 2 * length l.with_theirs.now + 1
