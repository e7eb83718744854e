use Rattle.rds_code.proofs.Names.{common_steps, arith}
use Rattle.rds_code.proofs.ReadingLemmas.{asked-lt, none_by_table, one_by_table, corrections_none, corrections_one}
use Rattle.rds_code.proofs.windows.corrected_to.Goals as goal

pub find-requires : goal.find-requires
find-requires c = asked-lt c.args.w c.args.remainder c.word.result c.args.offset c.requires.block c.requires.of_window c.word.ensures

pub returns-in-Some : goal.returns-in-Some
returns-in-Some c = grind (arith, common_steps, one_by_table, corrections_one)

pub returns-in-None : goal.returns-in-None
returns-in-None c = grind (arith, common_steps, none_by_table, corrections_none)
