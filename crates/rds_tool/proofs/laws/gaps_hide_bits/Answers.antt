use Rattle.rds_tool.proofs.WellFormed.{gaps_hide_bits}
use Rattle.rds_tool.proofs.laws.gaps_hide_bits.Goals as goal

pub returns : goal.returns
returns c = gaps_hide_bits c.runs_move.ensures c.ends_move.ensures c.runs_are_reports.ensures c.runs_are_lawful.ensures
