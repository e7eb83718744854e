use Rattle.rds_abi.proofs.Shared.{◌-◌, ◌<◌, ◌^◌, ap, arith, refl, subst, sym, ◌∙◌, All, Item, place_of, State, moved_state, run-early, state_in_c, lawful-on, IsLawful}
use Rattle.rds_sync.specs.Decoding.{DecoderOf}
use Rattle.rds_abi.proofs.ranges.go_on.Goals as goal

pub fill_run-requires-clause-early : goal.fill_run-requires-clause-early
fill_run-requires-clause-early c =
    let start = c.args.start.now in
    let before = start.part.before in
    subst (λ (d : DecoderOf). All (λ (item : Item). place_of item < 2 ^ 36) d.items) (sym c.new-items.ensures)
    (run-early start.part.recording start.rules (2 ^ 36) start.state (c.args.range.0 - before) (c.args.range.1 - before - (c.args.range.0 - before)) (omega (arith, c.requires.begins, c.requires.order, c.requires.limit)))

pub returns-clause-laid : goal.returns-clause-laid
returns-clause-laid c =
    let before = c.args.start.now.part.before in
    c.state_in_c.ensures.value ∙ ap (state_in_c c.args.start.now.rules) (c.moved_on.ensures ∙ ap (moved_state before) c.in_ok-end.ensures.state)

pub returns-clause-state : goal.returns-clause-state
returns-clause-state c =
    let start = c.args.start.now in
    let before = start.part.before in
    let there = lawful-on start.rules before (c.args.range.1 - before) c.args.range.1 c.in_ok-end.end (moved_state before c.in_ok-end.end) refl c.in_ok-end.ensures.lawful (omega (arith, c.requires.begins, c.requires.order)) in
    c.state_in_c.ensures.says start.rules c.args.range.1 (subst (λ (s : State). IsLawful start.rules c.args.range.1 s) (sym c.moved_on.ensures) there)
    ∙ c.moved_on.ensures ∙ ap (moved_state before) c.in_ok-end.ensures.state

pub returns-clause-next : goal.returns-clause-next
returns-clause-next c =
    let start = c.args.start.now in
    let before = start.part.before in
    let there = lawful-on start.rules before (c.args.range.1 - before) c.args.range.1 c.in_ok-end.end (moved_state before c.in_ok-end.end) refl c.in_ok-end.ensures.lawful (omega (arith, c.requires.begins, c.requires.order)) in
    let here = subst (λ (s : State). IsLawful start.rules c.args.range.1 s) (sym c.moved_on.ensures) there in
    let says = c.state_in_c.ensures.says start.rules c.args.range.1 here in
    (subst (λ (s : State). IsLawful start.rules c.args.range.1 s) (sym says) here, c.state_in_c.ensures.value ∙ ap (state_in_c start.rules) (sym says))
