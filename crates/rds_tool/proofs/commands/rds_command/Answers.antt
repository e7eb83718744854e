use Rattle.rds_tool.proofs.Names.{subst, ap, ◌∙◌, App, Makes, bare_app, with_command, with_each}
use Rattle.rds_tool.proofs.Options.{five_commands}
use Rattle.rds_tool.proofs.commands.rds_command.Goals as goal

-- the rows are those of the commands that the program is said to have
pub returns : goal.returns
returns c =
    let rows_are = ap (with_each with_command bare_app) c.as_slice.ensures
    ∙ five_commands c.scan_row.result c.list_row.result c.follow_row.result c.totals_row.result c.encode_row.result c.scan_row.ensures c.list_row.ensures c.follow_row.ensures c.totals_row.ensures c.encode_row.ensures in
    subst (λ (app : App). Makes c.with_commands.result app) rows_are (c.with_commands.ensures _ c.top_command.ensures)
