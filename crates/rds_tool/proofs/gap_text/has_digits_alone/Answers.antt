use Rattle.rds_tool.proofs.Names.{◌∙◌, rules, tests, is_ascii_digit}
use Rattle.rds_tool.proofs.GapTexts.{all_digits}
use Rattle.std.proofs.lemmas.Iterator.{YieldsList-from_slice, Search.all_from_yields_List}
use Rattle.rds_tool.proofs.gap_text.has_digits_alone.Goals as goal

pub returns : goal.returns
returns c =
    all_from_yields_List is_ascii_digit _ _ c.all.result c.all.ensures.ran (YieldsList-from_slice c.args.text.now cc) (λ x b q k. search (rules, tests))
    ∙ all_digits c.args.text.now
