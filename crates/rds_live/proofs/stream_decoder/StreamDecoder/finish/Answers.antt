use Rattle.rds_live.proofs.Names.{◌≡◌, ◌++◌, ◌∙◌, List, [], ap, ap₂, arith, refl, subst, sym, ℕ, append-nil, Signal, length_of, group_item, plus, IsLawful, totals_of, Item, gaps_within, group_next, run_next, LiveOf, complete, report_of}
use Rattle.rds_live.proofs.{Nexts.group-inside, Nexts.part-inside, Nexts.report-now, Nexts.totals-end, Parts.length-at, stream_decoder.StreamDecoder.finish.Goals.After-stream_end_of}
use Rattle.rds_live.proofs.stream_decoder.StreamDecoder.finish.Goals as goal

pub moved_end-group-requires-clause-lawful : goal.moved_end-group-requires-clause-lawful
moved_end-group-requires-clause-lawful c =
    let s = c.self.inside in
    let start = c.next_start-start.result in
    let long = ap (λ (b : Signal). length_of b) c.into_recording-part.ensures ∙ length-at (gaps_within s.gaps.now start.before start.from) s.room.bytes start.from in
    subst (λ (n : ℕ). IsLawful s.rules.now n start.state) (sym long) (subst (λ (l : LiveOf). IsLawful l.terms.rules start.from start.state) (sym c.self.view_is) c.next_start-start.ensures.lawful)

-- the group in progress and the totals
closed_is : (c : After-stream_end_of) → group_item c.stream_end_of.result.group ≡ group_next c.args.self [] 0
closed_is c =
    let start = c.next_start-start.result in
    let part = part-inside c.args.self start c.next_start-start.ensures _ c.self.view_is c.into_recording-part.result [] c.self.inside.room.bytes 0 0 start.from (omega arith) (omega arith)
    (sym (append-nil c.self.inside.room.bytes)) c.into_recording-part.ensures in
    group-inside c.args.self start c.next_start-start.ensures _ c.self.view_is [] 0 (run_next c.args.self [] 0) refl c.into_recording-part.result start.state _ part c.next_start-start.ensures.state
    (ap group_item c.stream_end_of.ensures.group ∙ c.moved_end-group.ensures)

counted_is : (c : After-stream_end_of) → c.stream_end_of.result.totals ≡ plus c.args.self.totals (totals_of (group_next c.args.self [] 0))
counted_is c =
    c.stream_end_of.ensures.totals
    ∙ ap₂ (λ (l : LiveOf) (items : List Item). plus l.totals (totals_of items)) c.self.view_is (sym (ap group_item c.stream_end_of.ensures.group) ∙ closed_is c)

pub returns-clause-closed : goal.returns-clause-closed
returns-clause-closed c = closed_is (goal.at.returns-clause-closed c).After-stream_end_of

pub returns-clause-counted : goal.returns-clause-counted
returns-clause-counted c = counted_is (goal.at.returns-clause-counted c).After-stream_end_of

pub returns-clause-group : goal.returns-clause-group
returns-clause-group c bytes h =
    let c = (goal.at.returns-clause-group c).After-stream_end_of in
    ap (λ (items : List Item). complete c.args.self.terms bytes ++ items) (closed_is c) ∙ report-now c.args.self c.next_start-start.result c.next_start-start.ensures c.ends_are_reports.ensures bytes h

pub returns-clause-totals : goal.returns-clause-totals
returns-clause-totals c bytes h =
    let c = (goal.at.returns-clause-totals c).After-stream_end_of in
    totals-end c.totals_join.ensures c.args.self.totals c.stream_end_of.result.totals (complete c.args.self.terms bytes) (group_next c.args.self [] 0) (report_of c.args.self.terms bytes)
    (ap (λ (l : LiveOf). l.totals) h) (counted_is c) (report-now c.args.self c.next_start-start.result c.next_start-start.ensures c.ends_are_reports.ensures bytes h)
