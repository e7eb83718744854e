use Rattle.rds_tool.proofs.Names.{drop, app_of_row, with_option}
use Rattle.rds_tool.proofs.Options.{HasRest}
use Rattle.rds_tool.proofs.commands.command_of.Given as goal

abbrev pub invariant-loop-option : goal.invariant-loop-option
invariant-loop-option l = HasRest with_option l.command (drop l.option-index l.option-items) (app_of_row l.row)
