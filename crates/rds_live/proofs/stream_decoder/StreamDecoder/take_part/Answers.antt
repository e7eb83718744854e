use Rattle.rds_live.proofs.Names.{common_steps, arith, ◌≡◌, ◌+◌, ◌-◌, ◌*◌, ◌∙◌, List, ap, length, refl, length-map, with_items_is, run, totals_of, Item, moved_item, run_next}
use Rattle.rds_live.proofs.{Nexts.heard-inside, Nexts.items-inside, Nexts.next-inside, stream_decoder.StreamDecoder.take_part.Goals.After-moved_on-self-inside}
use Rattle.rds_live.proofs.stream_decoder.StreamDecoder.take_part.Goals as goal

-- the run over these bytes
there : (c : After-moved_on-self-inside) → let start = c.next_start-start.result in
    run c.recording-part.result.now c.self.inside.rules.now start.state start.from (start.from + 8 * length c.args.bytes.now - start.from) ≡ run_next c.args.self.now c.args.bytes.now (8 * length c.args.bytes.now)
there c =
    heard-inside c.args.self.now c.next_start-start.result c.next_start-start.ensures _ c.self.view_is c.runs_move.ensures c.args.bytes.now c.push.new.self.bytes c.listen.new.self.bytes
    c.listen.new.self.recording c.recording-part.result.now c.push.ensures.bytes c.listen.ensures.bytes c.recording-part.ensures.value c.listen.ensures.heard

pub returns-clause-next : goal.returns-clause-next
returns-clause-next c =
    let c = (goal.at.returns-clause-next c).After-moved_on-self-inside in
    let start = c.next_start-start.result in
    next-inside c.args.self.now start c.next_start-start.ensures _ c.self.view_is c.totals_join.ensures c.args.bytes.now c.listen.new.self.bytes c.keep_last.new.self.bytes
    (start.before + (start.from + 8 * length c.args.bytes.now)) _ c.fill_from-end.result c.moved_on-self-inside.result c.of.result c.plus-self-inside.result (there c)
    (c.listen.ensures.bytes ∙ c.push.ensures.bytes) c.keep_last.ensures.bytes refl c.fill_from-end.ensures.state c.moved_on-self-inside.ensures
    (c.of.ensures.value ∙ ap (λ (items : List Item). totals_of items) (c.deref.ensures.value ∙ c.fill_from-end.ensures.items)) c.plus-self-inside.ensures.value

pub returns-clause-completed : goal.returns-clause-completed
returns-clause-completed c =
    let c = (goal.at.returns-clause-completed c).After-moved_on-self-inside in
    let counted = ap length c.move_on.ensures ∙ length-map c.as_mut_slice.result.now (moved_item c.next_start-start.result.before) ∙ c.as_mut_slice.ensures.len in
    with_items_is c.fill_from-end.new.items c.move_on.new.items counted
    ∙ items-inside c.args.self.now c.next_start-start.result c.next_start-start.ensures _ c.self.view_is c.args.bytes.now (8 * length c.args.bytes.now) _ (there c)
    c.as_mut_slice.result.now c.move_on.new.items (c.as_mut_slice.ensures.value ∙ c.fill_from-end.ensures.items) c.move_on.ensures

pub invariant_of-self : goal.invariant_of-self
invariant_of-self = grind (arith, common_steps)
