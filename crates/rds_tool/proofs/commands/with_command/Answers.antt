use Rattle.std.proofs.lemmas.Result.{IfOk-weaker}
use Rattle.rds_tool.proofs.Options.{with_one_command}
use Rattle.rds_tool.proofs.commands.with_command.Goals as goal

pub returns : goal.returns
returns c = λ app reads.
    IfOk-weaker c.subcommand.result _ _ (λ made adds. with_one_command c.args.top made c.in_ok-command.command c.args.row.now adds c.in_ok-command.ensures app reads) c.subcommand.ensures
