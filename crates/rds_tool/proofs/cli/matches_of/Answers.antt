use Rattle.rds_tool.proofs.Names.{◌≡◌, ◌∙◌, ap, refl, subst, true, map, List, ℕ, Bor, IfOk-weaker, App, is_simple, subcommand_of, fault_of, is_simple_and_free, FailsBy, rds_app}
use Rattle.clap.proofs.OnLiterals.{clap_on_literals}
use Rattle.rds_tool.proofs.cli.matches_of.Goals as goal

is_simple_app : is_simple rds_app ≡ true
unfolding clap_on_literals
is_simple_app = refl

pub returns-clause-entries : goal.returns-clause-entries
returns-clause-entries c =
    let e = c.in_ok-rds_command.ensures.app in
    let parse = c.try_get_matches_from in
    IfOk-weaker parse.result _ _ (λ m h. (h (ap is_simple e ∙ is_simple_app)).1 ∙ ap (λ (a : App). subcommand_of a (map (λ (w : Bor (List ℕ)). w.now) c.args.words.now)) e) parse.ensures.matches

is_free_app : is_simple_and_free rds_app ≡ true
unfolding clap_on_literals
is_free_app = refl

pub returns-clause-faults : goal.returns-clause-faults
returns-clause-faults c =
    let e = c.in_ok-rds_command.ensures.app in
    let words = map (λ (w : Bor (List ℕ)). w.now) c.args.words.now in
    subst (λ (a : App). FailsBy (fault_of a words) c.try_get_matches_from.result) e (c.try_get_matches_from.ensures.kinds (ap is_simple_and_free e ∙ is_free_app))
