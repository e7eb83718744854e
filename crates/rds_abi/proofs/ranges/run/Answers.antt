use Rattle.rds_abi.proofs.Shared.{◌≡◌, ◌-◌, List, ap₂, arith, inl, inr, length, map, subst, sym, ◌∙◌, length-map, IfErr-weaker, on_ok_weaker, Item, State, RuleNumbers, IsFilled, IsTooMuch, asked, RefusesRun, run_asked, run_in_part, state_in_c, state_of, item_in_c, Refusal}
use Rattle.rds_abi.proofs.{PartRuns.run-asked, ranges.run.Goals.After-go_on}
use Rattle.rds_abi.proofs.ranges.run.Goals as goal

-- the run over places of the part is the run asked for
run : (c : After-go_on) → let start = c.in_ok-start.start in
    run_in_part start.part.recording start.rules start.state start.part.before c.args.range.0 c.args.range.1 ≡ run_asked (asked c.args.bytes.now c.args.bits c.args.gaps.now c.args.rules) c.args.range.0 c.args.range.1 c.args.state.now
run c =
    let s = c.in_ok-start.ensures in
    let start = c.in_ok-start.start in
    run-asked c.args.bytes.now c.args.bits c.args.gaps.now c.args.rules c.args.range.0 c.args.range.1 c.args.state.now start.part.recording start.rules start.part.before start.state
    s.rules s.begins s.len s.state s.begin (s.heard (c.args.range.0 - start.part.before) (omega arith)) s.lawful c.runs_move.ensures

pub returns-clause-filled : goal.returns-clause-filled
returns-clause-filled c =
    on_ok_weaker c.go_on.result (subst (λ (r : State × List Item). IsFilled (map item_in_c r.1) c.args.room.now c.go_on.new.room) (run (goal.at.returns-clause-filled c).After-go_on)) c.go_on.ensures.filled

pub returns-clause-count : goal.returns-clause-count
returns-clause-count c =
    let found = (run_asked (asked c.args.bytes.now c.args.bits c.args.gaps.now c.args.rules) c.args.range.0 c.args.range.1 c.args.state.now).1 in
    let same = run (goal.at.returns-clause-count c).After-go_on in
    on_ok_weaker c.go_on.result (λ told. subst (λ (r : State × List Item). c.go_on.new.count ≡ length r.1) same told ∙ sym (length-map found item_in_c)) c.go_on.ensures.count

pub returns-clause-state : goal.returns-clause-state
returns-clause-state c =
    on_ok_weaker c.go_on.result (subst (λ (r : State × List Item). state_of c.go_on.new.state ≡ r.0) (run (goal.at.returns-clause-state c).After-go_on)) c.go_on.ensures.state

pub returns-clause-laid : goal.returns-clause-laid
returns-clause-laid c =
    let same = run (goal.at.returns-clause-laid c).After-go_on in
    on_ok_weaker c.go_on.result (λ is. is ∙ ap₂ (λ (r : RuleNumbers) (found : State × List Item). state_in_c r found.0) c.in_ok-start.ensures.rules same) c.go_on.ensures.laid

pub returns-clause-next : goal.returns-clause-next
returns-clause-next c = rw c.in_ok-start.ensures.rules at c.go_on.ensures.next

pub returns-clause-refused : goal.returns-clause-refused
returns-clause-refused c =
    let lawful = c.in_ok-start.ensures.lawful in
    let same = run (goal.at.returns-clause-refused c).After-go_on in
    let a = asked c.args.bytes.now c.args.bits c.args.gaps.now c.args.rules in
    IfErr-weaker c.go_on.result _ _
    (λ refusal h. elim h [
      | inl many ↦ inl (lawful, subst (λ (r : State × List Item). IsTooMuch (map item_in_c r.1) (length c.args.room.now) refusal c.go_on.new.count) same many)
      | inr (memory, kept) ↦ inr (subst (λ (r : Refusal). RefusesRun a c.args.range.0 c.args.range.1 c.args.state.now r) (sym memory) (inl (inl (lawful.asked.rules.reserved, tt))), kept)
    ]) c.go_on.ensures.refused
