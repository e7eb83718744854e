use Rattle.std.proofs.Common.{◌∙◌, Err, ap, sym}
use Rattle.rds_tool.proofs.{HexDigits.even_text, HexDigits.odd_text, HexDigits.strange_text, Passing.passes}
use Rattle.rds_tool.proofs.input.decode_in_place.Goals as goal

pub returns-in_err-count-clause-refused : goal.returns-in_err-count-clause-refused
returns-in_err-count-clause-refused c =
    let refused = c.in_err-count.ensures.refused in
    passes _ _ _ c.from_residual.ensures (strange_text c.args.text.now refused.1 ∙ ap (λ e. Err e) (sym refused.0))

pub returns-then-is_some-clause-refused : goal.returns-then-is_some-clause-refused
returns-then-is_some-clause-refused c = odd_text c.args.text.now _ _ (sym c.is_some.ensures ∙ c.if-is_some.true) c.in_ok-count.ensures.ok.2

pub returns-clause-ok : goal.returns-clause-ok
returns-clause-ok c = even_text c.args.text.now _ _ (sym c.is_some.ensures ∙ c.if-is_some.false) c.in_ok-count.ensures.ok.2
