use Rattle.rds_live.proofs.Names.{common_steps, arith, ◌≡◌, ◌+◌, ◌-◌, ◌*◌, ◌∙◌, length, refl, run, run_next}
use Rattle.rds_live.proofs.{Nexts.heard-inside, Nexts.next-inside, stream_decoder.StreamDecoder.count_part.Goals.After-moved_on-self-inside}
use Rattle.rds_live.proofs.stream_decoder.StreamDecoder.count_part.Goals as goal

-- the run over these bytes
there : (c : After-moved_on-self-inside) → let start = c.next_start-start.result in
    run c.recording-part.result.now c.self.inside.rules.now start.state start.from (start.from + 8 * length c.args.bytes.now - start.from) ≡ run_next c.args.self.now c.args.bytes.now (8 * length c.args.bytes.now)
there c =
    heard-inside c.args.self.now c.next_start-start.result c.next_start-start.ensures _ c.self.view_is c.runs_move.ensures c.args.bytes.now c.push.new.self.bytes c.listen.new.self.bytes
    c.listen.new.self.recording c.recording-part.result.now c.push.ensures.bytes c.listen.ensures.bytes c.recording-part.ensures.value c.listen.ensures.heard

pub returns-clause-next : goal.returns-clause-next
returns-clause-next c =
    let c = (goal.at.returns-clause-next c).After-moved_on-self-inside in
    let start = c.next_start-start.result in
    next-inside c.args.self.now start c.next_start-start.ensures _ c.self.view_is c.totals_join.ensures c.args.bytes.now c.listen.new.self.bytes c.keep_last.new.self.bytes
    (start.before + (start.from + 8 * length c.args.bytes.now)) _ c.run_totals-end.result.0 c.moved_on-self-inside.result c.run_totals-end.result.1 c.plus-self-inside.result (there c)
    (c.listen.ensures.bytes ∙ c.push.ensures.bytes) c.keep_last.ensures.bytes refl c.run_totals-end.ensures.state c.moved_on-self-inside.ensures c.run_totals-end.ensures.totals c.plus-self-inside.ensures.value

pub invariant_of-self : goal.invariant_of-self
invariant_of-self = grind (arith, common_steps)
