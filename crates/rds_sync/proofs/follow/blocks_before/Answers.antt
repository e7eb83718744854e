use Rattle.rds_sync.proofs.Names.{◌≡◌, ◌+◌, ◌-◌, ◌*◌, ℕ, ap, ap₂, ◌∙◌, arith, Signal, blocks_at}
use Rattle.rds_sync.proofs.follow.blocks_before.Goals as goal

pub loop-number-preserved : goal.loop-number-preserved
loop-number-preserved g c =
    let l = c.args.lock in
    let n = c.loop-number.number in
    let due = l.due - 26 * c.from.result in
    let this : n ≡ n + 1 - 1 = omega arith in
    let place : due ≡ l.due - 26 * (l.number - (n + 1)) - 26 = omega (arith, c.from.ensures, c.loop-number-test.true) in
    let kept = c.loop-number.invariant in
    record {
      same = c.read_due.ensures.same ∙ kept.same;
      read = c.read_due.ensures.blocks
          ∙ ap (λ (signal : Signal). blocks_at signal c.args.rules.now l.first n due) kept.same
          ∙ ap₂ (λ (x p : ℕ). blocks_at (g.T.Tape.signal c.args.tape.now) c.args.rules.now l.first x p) this place;
      reads = omega (arith, c.read_due.ensures.reads, kept.reads, c.loop-number.auto.number);
    }

pub returns-clause-blocks : goal.returns-clause-blocks
returns-clause-blocks g c =
    let l = c.args.lock in
    let n = c.loop-number.number in
    let last : n - 1 ≡ l.number - 1 = omega (arith, c.loop-number-test.false, c.loop-number.auto.number-end, c.requires.numbers) in
    let place : l.due - 26 * (l.number - n) - 26 ≡ l.due - 26 = omega (arith, c.loop-number-test.false) in
    c.loop-number.invariant.read ∙ ap₂ (λ (x p : ℕ). blocks_at (g.T.Tape.signal c.args.tape.now) c.args.rules.now l.first x p) last place
