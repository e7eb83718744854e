-- What `clap` reads of the rows of the table of commands.
use Rattle.std.specs.Prelude.{List, Some, [], ◌∷◌, codes, length, map, true}
use Rattle.clap.specs.Words.{App, Rule, new_app, new_rule, with_rule, with_subcommand}
use Rattle.rds_tool.specs.declared.commands.{CommandRow.CommandRow, OptionRow.OptionRow}

abbrev pub rule_of_row : OptionRow → Rule
rule_of_row row = record (new_rule row.name.now) {
  long = Some row.name.now;
  action = Some row.action;
  value_names = length row.value.now;
  parser = Some row.parser;
  defaults = map (λ text. text.now) row.default.now;
}

-- a command with one thing more for each row
abbrev pub with_each : {X : Type 0} → (App → X → App) → App → List X → App
with_each add app [] = app
with_each add app (row ∷ rows) = with_each add (add app row) rows

abbrev pub with_option : App → OptionRow → App
with_option app option = with_rule app (rule_of_row option)

abbrev pub app_of_row : CommandRow → App
app_of_row row = with_each with_option (new_app row.name.now) row.options.now

abbrev pub with_command : App → CommandRow → App
with_command app row = with_subcommand app (app_of_row row).top

-- the program without its commands
abbrev pub bare_app : App
bare_app = let app = new_app (codes "rds") in record app { top = record app.top { has_version = true; subcommand_required = true } }
