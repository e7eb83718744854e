use Rattle.rds_tool.proofs.Names.{◌++◌, ◌∷◌, ◌∙◌, ap, false, word_text}
use Rattle.rds_code.specs.declared.offset.Offset.{Offset}
use Rattle.rds_soft.specs.SoftLists.{word}
use Rattle.rds_sync.specs.declared.item.Version.{Version}
use Rattle.rds_tool.specs.Listing.{version_text}
use Rattle.rds_tool.proofs.GroupRow.{eight_fields, valid-row}
use Rattle.rds_tool.proofs.page.Page.push_valid_group.Goals as goal

pub returns-clause-text : goal.returns-clause-text
returns-clause-text c =
    let g = c.args.group.now in
    let version = c.put_version.ensures.text ∙ ap (λ (v : Version). c.put_kind.new.self ++ 44 ∷ version_text v false) c.version_and_third-version.ensures.version in
    let third = c.put_word-3.ensures.text ∙ ap (λ (o : Offset). c.put_word-2.new.self ++ 44 ∷ word_text o (word g 3)) c.version_and_third-version.ensures.third in
    let shown = eight_fields c.put_byte.new.self c.args.self.now _ _ _ _ _ _ _ _ _ _ _ _ _ _ _
    c.put.ensures c.put_number.ensures.value c.put_kind.ensures.text version
    c.put_word.ensures.text c.put_word-2.ensures.text third c.put_word-4.ensures.text c.put_byte.ensures in
    shown ∙ ap (λ t. c.args.self.now ++ t) (valid-row g)
