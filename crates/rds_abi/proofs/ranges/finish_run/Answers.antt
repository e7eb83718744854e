use Rattle.rds_abi.proofs.Shared.{◌≡◌, ◌-◌, ℕ, List, ap, arith, inl, length, map, refl, subst, sym, ◌∙◌, length-map, IfErr-weaker, on_ok_weaker, group_item, Item, items_of_end, IsFilled, recording_of, rules_of, state_of, item_in_c, IsLawful}
use Rattle.rds_abi.proofs.{PartRuns.end-asked, ranges.finish_run.Goals.After-write_end}
use Rattle.rds_abi.proofs.ranges.finish_run.Goals as goal

pub moved_end-group-requires-clause-lawful : goal.moved_end-group-requires-clause-lawful
moved_end-group-requires-clause-lawful c =
    let s = c.in_ok-start.ensures in
    subst (λ (n : ℕ). IsLawful c.in_ok-start.start.rules n c.in_ok-start.start.state) (sym s.len) s.begin

module _ (c : After-write_end) where
  abbrev all : List Item
  all = items_of_end (recording_of c.args.bytes.now c.args.bits c.args.gaps.now) (rules_of c.args.rules) (state_of c.args.state)

  found : group_item c.moved_end-group.result ≡ all
  found =
      let s = c.in_ok-start.ensures in
      let start = c.in_ok-start.start in
      c.moved_end-group.ensures
      ∙ end-asked c.args.bytes.now c.args.bits c.args.gaps.now c.args.rules c.args.bits c.args.bits c.args.state start.part.recording start.rules start.part.before start.state
      s.rules s.begins s.len s.state s.begin (s.heard (c.args.bits - start.part.before) (omega arith)) s.lawful c.ends_move.ensures refl

  many : length (map item_in_c all) ≡ length (group_item c.moved_end-group.result)
  many = length-map all item_in_c ∙ ap (λ (items : List Item). length items) (sym found)

pub returns-clause-filled : goal.returns-clause-filled
returns-clause-filled c =
    on_ok_weaker c.write_end.result (subst (λ (items : List Item). IsFilled (map item_in_c items) c.args.room.now c.write_end.new.room) (found (goal.at.returns-clause-filled c).After-write_end)) c.write_end.ensures.filled

pub returns-clause-count : goal.returns-clause-count
returns-clause-count c = on_ok_weaker c.write_end.result (λ filled. c.write_end.ensures.count ∙ sym (many (goal.at.returns-clause-count c).After-write_end)) c.write_end.ensures.filled

pub returns-clause-refused : goal.returns-clause-refused
returns-clause-refused c =
    let same = many (goal.at.returns-clause-refused c).After-write_end in
    IfErr-weaker c.write_end.result _ _
    (λ refusal h. inl (c.in_ok-start.ensures.lawful, (h.0, omega (arith, h.1, same), c.write_end.ensures.count ∙ sym same))) c.write_end.ensures.refused
