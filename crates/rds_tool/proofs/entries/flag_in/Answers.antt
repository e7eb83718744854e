use Rattle.rds_tool.proofs.Names.{◌∙◌, Bor, List, Option, ap, sym, ℕ, option_map, found_of, is_true}
use Rattle.rds_tool.proofs.Getters.{flag_rows}
use Rattle.rds_tool.proofs.entries.flag_in.Goals as goal

pub returns-in-Some : goal.returns-in-Some
returns-in-Some c =
    let given = ap (λ (o : Option (Bor (List ℕ))). is_true (option_map (λ s. s.now) o)) c.in-Some.is in
    c.eq.ensures ∙ sym given ∙ flag_rows (found_of c.args.entries.now) c.args.name.now c.get_str.result c.get_str.ensures

pub returns-in-None : goal.returns-in-None
returns-in-None c =
    let none = ap (λ (o : Option (Bor (List ℕ))). is_true (option_map (λ s. s.now) o)) c.in-None.is in
    sym none ∙ flag_rows (found_of c.args.entries.now) c.args.name.now c.get_str.result c.get_str.ensures
