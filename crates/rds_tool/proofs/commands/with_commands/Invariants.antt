use Rattle.rds_tool.proofs.Names.{drop, App, ReadsAs, with_command, with_each}
use Rattle.rds_tool.proofs.Options.{HasRest}
use Rattle.rds_tool.proofs.commands.with_commands.Given as goal

abbrev pub invariant-loop-row : goal.invariant-loop-row
invariant-loop-row l =
    (app : App) → ReadsAs l.fn.top app → HasRest with_command l.top (drop l.row-index l.rows) (with_each with_command app l.rows)
