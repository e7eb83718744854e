use Rattle.rds_live.proofs.Names.{◌++◌, ◌∙◌, ◌<◌, ◌^◌, List, ap, arith, subst, sym, All, get_or_append_left, length-append, Item, DecoderOf, place_of}
use Rattle.rds_live.proofs.ItemPlaces.{run-early}
use Rattle.rds_live.proofs.stream_decoder.fill_from.Goals as goal

pub returns-clause-early : goal.returns-clause-early
returns-clause-early c k d h =
    let given = c.fill.new.part.items in
    let left = c.fill.new.self.items in
    let all : All (λ (item : Item). place_of item < 2 ^ 36) (given ++ left) =
    subst (λ (items : List Item). All (λ (item : Item). place_of item < 2 ^ 36) items) (sym (ap (λ (decoder : DecoderOf). decoder.items) c.new-decoder.ensures) ∙ c.fill.ensures.items)
    (run-early c.args.part.now c.args.rules.now (2 ^ 36) c.args.state c.args.from _ (omega (arith, c.requires.order, c.requires.within, c.len.ensures.value, c.len.ensures.limit))) in
    subst (λ (item : Item). place_of item < 2 ^ 36) (get_or_append_left given left d k h) (all k d (omega (arith, h, length-append given left)))
