use Rattle.rds_tool.proofs.Names.{common_steps, arith, refl, app_of_row, with_option}
use Rattle.rds_tool.proofs.Options.{begun, ended, next_option}
use Rattle.rds_tool.proofs.commands.command_of.Goals as goal

pub loop-option-init : goal.loop-option-init
loop-option-init c = begun with_option (app_of_row c.args.row.now) c.bare_command-command.result _ c.args.row.now.options.now c.bare_command-command.ensures refl

pub loop-option-preserved : goal.loop-option-preserved
loop-option-preserved c =
    next_option (app_of_row c.args.row.now) c.loop-option.command c.in_ok-command.command c.option_of.result c.args.row.now.options.now c.loop-option.option-index _
    c.loop-option.invariant c.loop-option-test.true c.in_ok-command.ensures c.option_of.ensures.local c.option_of.ensures.rule

pub returns : goal.returns
returns c = grind (arith, common_steps, ended)
