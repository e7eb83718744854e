use Rattle.rds_tool.proofs.Names.{◌++◌, ◌∙◌, ◌∷◌, [], ap, sym, encode_lower, text_of, group_text}
use Rattle.rds_tool.proofs.encode.push_group.Goals as goal

pub returns-then-hex-clause-text : goal.returns-then-hex-clause-text
returns-then-hex-clause-text c =
    c.push.ensures.text ∙ ap (λ t. text_of c.args.sheet.now ++ t)
    (c.line_of.ensures ∙ ap (λ bytes. encode_lower bytes ++ 10 ∷ []) c.bytes_of_group-bytes.ensures ∙ sym (ap (λ hex. group_text hex c.args.words) c.if-hex.true))

pub returns-else-hex-clause-text : goal.returns-else-hex-clause-text
returns-else-hex-clause-text c =
    c.push-else-hex.ensures.text
    ∙ ap (λ t. text_of c.args.sheet.now ++ t) (c.bytes_of_group-bytes.ensures ∙ sym (ap (λ hex. group_text hex c.args.words) c.if-hex.false))
