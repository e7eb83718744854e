use Rattle.rds_uses.proofs.Names.{IfErr-weaker, map, rules, ◌≡◌}
use Rattle.rds_uses.proofs.CommandLines.{asks_for_help, help_of_list, help_or_memory, never_ok}
use Rattle.clap.specs.declared.error.kind.ErrorKind.TheVariants as kind
use Rattle.rds_uses.proofs.commands.help_of_list.Goals as goal

pub returns-clause-no_job : goal.returns-clause-no_job
returns-clause-no_job c =
    let words_are : map (λ word. word.now) c.as_slice.result.now ≡ help_of_list = search rules in
    let faultless = c.asked_of.ensures.faultless in
    never_ok kind.DisplayHelp c.asked_of.result (rw (words_are, asks_for_help) at faultless)

pub returns-clause-help : goal.returns-clause-help
returns-clause-help c =
    let words_are : map (λ word. word.now) c.as_slice.result.now ≡ help_of_list = search rules in
    let refused = c.asked_of.ensures.refused in
    IfErr-weaker c.asked_of.result _ _ (λ fault. help_or_memory fault.kind) (rw words_are at refused)
