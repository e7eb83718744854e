use Rattle.rds_sync.proofs.Lemmas.{common_steps, ◌≡◌, ◌≤◌, ℕ, Some, ap, sym, ◌∙◌, arith, Signal, acquired, lock_after, Lock, Locked, lawful-acquired, run-acquired, sought}
use Rattle.rds_sync.proofs.tape_run.seek.Goals as goal

pub returns-in-Some-clause-came : goal.returns-in-Some-clause-came
returns-in-Some-clause-came g c =
    let b = g.T.Tape.signal c.args.tape.now in
    let rules = c.args.rules.now in
    let l = c.loop-here in
    let x = c.in-Some.found.number in
    let low : c.args.place ≤ l.here = omega (arith, l.auto.here) in
    let gives : acquired b rules l.here ≡ Some x = ap (λ (signal : Signal). acquired signal rules l.here) (sym l.invariant.same) ∙ sym c.in-Some.ensures.number in
    let lock_is : Locked c.lock.result ≡ Locked (lock_after l.here x 0 x) =
    ap (λ (k : Lock). Locked k) c.lock.ensures ∙ ap (λ (p : ℕ). Locked (lock_after p x 0 x)) c.in-Some.ensures.place in
    let run_is = run-acquired b rules l.here x gives c.args.place low l.invariant.silent in
    let lawful = lawful-acquired b rules l.here x gives c.reach.ensures.range.loss.0 in
    let given = c.add_found.ensures.given b rules gives in
    grind (arith, common_steps, lock_is, run_is, lawful, given, l.invariant.counts)

pub returns-clause-quiet : goal.returns-clause-quiet
returns-clause-quiet = grind (arith, sought)

pub lock-requires : goal.lock-requires
lock-requires = grind (arith, common_steps)

pub returns-clause-came : goal.returns-clause-came
returns-clause-came = grind (arith, sought)

pub returns-in-Some-clause-quiet : goal.returns-in-Some-clause-quiet
returns-in-Some-clause-quiet = grind (arith, sought)
