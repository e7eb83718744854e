-- Commands that are made of the rows of a table, one after the other.
use Rattle.rds_tool.proofs.Names.{common_steps, arith, ◌+◌, ◌<◌, ◌≤◌, ◌∙◌, ◌≡◌, List, [], ◌∷◌, refl, ap, drop, false, get_or, length, sym, ℕ, drop_all, drop_more, AddsArg, AddsSubcommand, App, rule_of, Command, ReadsAs, app_of_row, bare_app, rds_app, rule_of_row, with_command, with_each, with_option}
use Rattle.rds_tool.specs.declared.commands.{CommandRow.CommandRow, OptionRow.OptionRow}
use Rattle.clap.specs.declared.builder.arg.Arg.{Arg}

-- with the rows that are left, the command reads as the whole
pub record HasRest {X : Type 0} (add : App → X → App) (made : Command) (rows : List X) (whole : App) : Type 0 where
  pub reads : App
  pub now : ReadsAs made reads
  pub rest : with_each add reads rows ≡ whole

module _ {X : Type 0} (add : App → X → App) (whole : App) where
  pub begun : (made : Command) (app : App) (rows : List X) → ReadsAs made app → with_each add app rows ≡ whole → HasRest add made (drop 0 rows) whole
  begun made app rows is rest = record { reads = app; now = is; rest = rest }

  pub ended : (made : Command) (rows : List X) (i : ℕ) → HasRest add made (drop i rows) whole → length rows ≤ i → ReadsAs made whole
  ended made rows i has none = grind (arith, common_steps, drop_all)

  pub next : (old new : Command) (rows : List X) (i : ℕ) (d : X) → HasRest add old (drop i rows) whole → i < length rows
      → ((reads : App) → ReadsAs old reads → ReadsAs new (add reads (get_or rows i d))) → HasRest add new (drop (i + 1) rows) whole
  next old new rows i d has some adds = record {
    reads = add has.reads (get_or rows i d);
    now = adds has.reads has.now;
    rest = sym (ap (with_each add has.reads) (drop_more rows i d some)) ∙ has.rest;
  }

pub with_one_command : (old new sub : Command) (row : CommandRow) → AddsSubcommand old sub new → ReadsAs sub (app_of_row row)
    → (reads : App) → ReadsAs old reads → ReadsAs new (with_command reads row)
with_one_command old new sub row adds is reads now = grind (arith, common_steps)

with_one_option : (old new : Command) (arg : Arg) (option : OptionRow) → AddsArg old arg new → arg.global ≡ false → rule_of arg ≡ rule_of_row option
    → (reads : App) → ReadsAs old reads → ReadsAs new (with_option reads option)
with_one_option old new arg option adds local is reads now = grind (arith, common_steps)

pub next_option : (whole : App) (old new : Command) (arg : Arg) (rows : List OptionRow) (i : ℕ) (d : OptionRow)
    → HasRest with_option old (drop i rows) whole → i < length rows
    → AddsArg old arg new → arg.global ≡ false → rule_of arg ≡ rule_of_row (get_or rows i d) → HasRest with_option new (drop (i + 1) rows) whole
next_option whole old new arg rows i d has some adds local is = grind (arith, common_steps, next, with_one_option)

-- the commands of the rows of the table, one after the other, are the program's
pub five_commands : (a b c d e : CommandRow) → (app_of_row a).top ≡ get_or rds_app.subs 0 rds_app.top → (app_of_row b).top ≡ get_or rds_app.subs 1 rds_app.top
    → (app_of_row c).top ≡ get_or rds_app.subs 2 rds_app.top → (app_of_row d).top ≡ get_or rds_app.subs 3 rds_app.top
    → (app_of_row e).top ≡ get_or rds_app.subs 4 rds_app.top → with_each with_command bare_app (a ∷ b ∷ c ∷ d ∷ e ∷ []) ≡ rds_app
five_commands a b c d e p q r s t = rw (p, q, r, s, t) refl
