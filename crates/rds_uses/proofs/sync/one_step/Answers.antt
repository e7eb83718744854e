use Rattle.rds_uses.proofs.Names.{Item, List, None, RuleNumbers, Searching, Signal, State, [], acquired, after_bit, ap, arith, items_at, refl, run, step, touched, true, ℕ, ◌+◌, ◌-◌, ◌∙◌, ◌≡◌}
use Rattle.rds_stream.proofs.WindowLists.{off_touched}
use Rattle.rds_sync.specs.Advance.{next_place}
use Rattle.rds_uses.proofs.sync.one_step.Goals as goal

-- a window that touches a gap acquires nothing, and the run over that bit gives nothing
acquired_touched : (b : Signal) (rules : RuleNumbers) (i : ℕ) → touched b i ≡ true → acquired b rules i ≡ None
unfolding acquired
acquired_touched b rules i is = rw (off_touched b i is, acquired) refl

nothing : (b : Signal) (rules : RuleNumbers) (place next : ℕ) → next ≡ place + 1 → touched b place ≡ true
    → run b rules Searching place (next - place) ≡ (Searching, [])
nothing b rules place next is in_gap =
    let one : next - place ≡ 1 = omega (arith, is) in
    rw (one, acquired_touched b rules place in_gap, step, items_at, after_bit) refl

pub returns-clause-gap : goal.returns-clause-gap
returns-clause-gap g c = λ searching in_gap.
    let b = g.T.Tape.signal c.args.tape.now in
    let rules = c.args.rules.now in
    let place = c.args.place in
    let next = c.advance.result.place in
    let here = ap (λ (s : State). run b rules s place (next - place)) searching
    ∙ nothing b rules place next (c.advance.ensures.place ∙ ap (λ (s : State). next_place s place c.args.to) searching) in_gap in
    (c.advance.ensures.state ∙ ap (λ (r : State × List Item). r.0) here, c.advance.ensures.items ∙ ap (λ (r : State × List Item). r.1) here)
