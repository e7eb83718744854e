use Rattle.rds_soft.proofs.NearestLaws.{sure_symbols_stay}
use Rattle.rds_soft.proofs.laws.sure_symbols_stay.Goals as goal

pub returns : goal.returns
returns c = sure_symbols_stay
