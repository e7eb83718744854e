use Rattle.std.proofs.Common.{ℕ, ◌∷◌, [], ap, sym, ◌∙◌, arith, slice_index}
use Rattle.rds_code.specs.Detection.{miscorrections}
use Rattle.rds_uses.proofs.sent.miscorrected_of_two.Goals as goal

pub returns : goal.returns
returns c =
    let counted = (c.miscorrections_are_counted.ensures.counts c.encode_block-sent.result c.args.info c.args.offset c.args.limit 2 c.encode_block-sent.ensures.block
    (omega (arith, c.bits.ensures.value, c.bits.ensures.most)) (omega arith) (omega arith)).others c.args.wanted c.requires in
    ap (λ (w : ℕ). miscorrections w c.args.info c.args.offset c.args.wanted c.args.limit 2) (sym c.encode_block-sent.ensures.value) ∙ counted
    ∙ ap (λ (i : ℕ). slice_index (0 ∷ 21 ∷ 21 ∷ 21 ∷ 21 ∷ 43 ∷ []) i) (sym c.bits.ensures.value)
