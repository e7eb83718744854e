use Rattle.clap.specs.Words.{found_of}
use Rattle.rds_tool.proofs.Getters.{number_rows}
use Rattle.rds_tool.proofs.entries.number_in.Goals as goal

pub returns : goal.returns
returns c = number_rows (found_of c.args.entries.now) c.args.name.now c.get_one.result c.get_one.ensures.none c.get_one.ensures.value
