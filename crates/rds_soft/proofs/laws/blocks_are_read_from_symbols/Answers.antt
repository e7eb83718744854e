use Rattle.rds_soft.proofs.AgainLaws.{symbols_have_windows, reads_from_symbols}
use Rattle.rds_soft.proofs.laws.blocks_are_read_from_symbols.Goals as goal

pub returns : goal.returns
returns c = record { windows = symbols_have_windows; blocks = reads_from_symbols c.readings_follow_the_rule.ensures }
