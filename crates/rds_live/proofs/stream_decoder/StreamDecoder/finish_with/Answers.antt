use Rattle.rds_live.proofs.Names.{common_steps, ◌≡◌, ◌+◌, ◌-◌, ◌*◌, ◌++◌, ◌∙◌, List, ap, ap₂, arith, length, refl, subst, sym, ℕ, length-map, length-take-le, with_items_is, with_items, Signal, length_of, group_item, plus, IsLawful, run, totals_of, Item, Totals, gaps_within, moved_item, group_next, items_next, part_with, run_next, HasHeard, LiveOf, complete, report_at, signal_at, Start}
use Rattle.rds_live.proofs.{Following.at-most-more, Nexts.group-inside, Nexts.items-inside, Nexts.part-inside, Nexts.run-is, Nexts.totals-end, Nexts.totals-inside, Parts.length-at, stream_decoder.StreamDecoder.finish_with.Goals.After-stream_end_of}
use Rattle.rds_live.proofs.stream_decoder.StreamDecoder.finish_with.Goals as goal

size-of : (part : Signal) (gaps : List (ℕ × ℕ)) (bytes : List ℕ) (n : ℕ) → part ≡ signal_at gaps bytes n → length_of part ≡ n
size-of part gaps bytes n e = ap (λ (b : Signal). length_of b) e ∙ length-at gaps bytes n

pub fill_from-end-requires-clause-within : goal.fill_from-end-requires-clause-within
fill_from-end-requires-clause-within c =
    let start = c.next_start-start.result in
    omega (arith, size-of c.into_recording-part.result (gaps_within c.self.inside.gaps.now start.before (start.from + c.args.bits)) c.push.new.self.bytes (start.from + c.args.bits) c.into_recording-part.ensures)

pub stream_end_of-requires : goal.stream_end_of-requires
stream_end_of-requires c = grind (arith, common_steps, at-most-more)

pub moved_end-group-requires-clause-lawful : goal.moved_end-group-requires-clause-lawful
moved_end-group-requires-clause-lawful c =
    let n : ℕ = c.next_start-start.result.from + c.args.bits in
    let long = size-of c.into_recording-part.result (gaps_within c.self.inside.gaps.now c.next_start-start.result.before n) c.push.new.self.bytes n c.into_recording-part.ensures in
    subst (λ (k : ℕ). IsLawful c.self.inside.rules.now k c.fill_from-end.result) (sym long) c.fill_from-end.ensures.lawful

-- the facts once the bits that end the stream were decoded
module _ (c : After-stream_end_of) where
  abbrev start : Start
  start = c.next_start-start.result

  abbrev bytes : List ℕ
  bytes = c.args.bytes.now

  abbrev bits : ℕ
  bits = c.args.bits

  part_is : c.into_recording-part.result ≡ part_with c.args.self bytes bits
  part_is =
      let few = length-take-le c.div_ceil.result bytes (omega (arith, c.div_ceil.ensures, c.requires.held)) in
      part-inside c.args.self start c.next_start-start.ensures _ c.self.view_is c.into_recording-part.result bytes c.push.new.self.bytes c.div_ceil.result bits (start.from + bits)
      (omega (arith, few, c.div_ceil.ensures)) refl c.push.ensures.bytes c.into_recording-part.ensures

  run_is : run c.into_recording-part.result c.self.inside.rules.now start.state start.from (start.from + bits - start.from) ≡ run_next c.args.self bytes bits
  run_is =
      ap (λ (l : LiveOf). run c.into_recording-part.result l.terms.rules start.state start.from (start.from + bits - start.from)) c.self.view_is
      ∙ run-is c.args.self start c.next_start-start.ensures bytes c.into_recording-part.result bits (start.from + bits - start.from) part_is (omega arith)

  completed_is : (with_items c.fill_from-end.new.items c.move_on.new.items).items ≡ items_next c.args.self bytes bits
  completed_is =
      let counted = ap length c.move_on.ensures ∙ length-map c.as_mut_slice.result.now (moved_item start.before) ∙ c.as_mut_slice.ensures.len in
      with_items_is c.fill_from-end.new.items c.move_on.new.items counted
      ∙ items-inside c.args.self start c.next_start-start.ensures _ c.self.view_is bytes bits _ run_is c.as_mut_slice.result.now c.move_on.new.items
      (c.as_mut_slice.ensures.value ∙ c.fill_from-end.ensures.items) c.move_on.ensures

  closed_is : group_item c.stream_end_of.result.group ≡ group_next c.args.self bytes bits
  closed_is =
      group-inside c.args.self start c.next_start-start.ensures _ c.self.view_is bytes bits _ run_is c.into_recording-part.result c.fill_from-end.result _ part_is c.fill_from-end.ensures.state
      (ap group_item c.stream_end_of.ensures.group ∙ c.moved_end-group.ensures)

  counted_is : c.stream_end_of.result.totals ≡ plus (plus c.args.self.totals (totals_of (items_next c.args.self bytes bits))) (totals_of (group_next c.args.self bytes bits))
  counted_is =
      c.stream_end_of.ensures.totals
      ∙ ap₂ (λ (t : Totals) (items : List Item). plus t (totals_of items))
      (totals-inside c.args.self start c.next_start-start.ensures _ c.self.view_is bytes bits _ run_is c.totals_join.ensures c.of.result c.plus-totals.result
      (c.of.ensures.value ∙ ap (λ (items : List Item). totals_of items) (c.deref.ensures.value ∙ c.fill_from-end.ensures.items)) c.plus-totals.ensures.value)
      (sym (ap group_item c.stream_end_of.ensures.group) ∙ closed_is)

  report_is : (before : List ℕ) → HasHeard c.args.self before
      → complete c.args.self.terms before ++ items_next c.args.self bytes bits ++ group_next c.args.self bytes bits ≡ report_at c.args.self.terms (before ++ bytes) (8 * length before + bits)
  report_is before h = c.ends_are_reports.ensures c.args.self before bytes bits c.next_start-start.ensures.range c.next_start-start.ensures.known h c.requires.held

pub returns-clause-completed : goal.returns-clause-completed
returns-clause-completed c = completed_is (goal.at.returns-clause-completed c).After-stream_end_of

pub returns-clause-closed : goal.returns-clause-closed
returns-clause-closed c = closed_is (goal.at.returns-clause-closed c).After-stream_end_of

pub returns-clause-counted : goal.returns-clause-counted
returns-clause-counted c = counted_is (goal.at.returns-clause-counted c).After-stream_end_of

pub returns-clause-items : goal.returns-clause-items
returns-clause-items c before h =
    let c = (goal.at.returns-clause-items c).After-stream_end_of in
    ap₂ (λ (xs ys : List Item). complete c.args.self.terms before ++ xs ++ ys) (completed_is c) (closed_is c) ∙ report_is c before h

pub returns-clause-totals : goal.returns-clause-totals
returns-clause-totals c before h =
    let c = (goal.at.returns-clause-totals c).After-stream_end_of in
    let live = c.args.self in
    let more = items_next live c.args.bytes.now c.args.bits in
    totals-end c.totals_join.ensures (plus live.totals (totals_of more)) c.stream_end_of.result.totals (complete live.terms before ++ more) (group_next live c.args.bytes.now c.args.bits)
    (report_at live.terms (before ++ c.args.bytes.now) (8 * length before + c.args.bits))
    (ap (λ (l : LiveOf). plus l.totals (totals_of more)) h ∙ sym (c.totals_join.ensures (complete live.terms before) more).joined) (counted_is c) (report_is c before h)

pub into_recording-part-requires-clause-held : goal.into_recording-part-requires-clause-held
into_recording-part-requires-clause-held = grind (arith, common_steps)
