use Rattle.rds_abi.proofs.Shared.{◌≡◌, ◌-◌, ◌+◌, ◌<◌, ◌≤◌, ◌∙◌, ℕ, List, ap, arith, drop, inl, length, subst, take, length-take, LiveOf, Terms, completed, live_next, stream_of, length-drop, take_rest}
use Rattle.rds_abi.proofs.Fitting.{all-taken, filled-long, filled-piece, joined-count, joined-items, joined-next}
use Rattle.rds_abi.proofs.stream.take_fitting.Goals as goal

pub loop-fit-smaller : goal.loop-fit-smaller
loop-fit-smaller c =
    let a = c.loop-fit.fit.taken in
    let bytes = c.args.bytes.now in
    let rest = ap (λ (xs : List ℕ). length xs) (take_rest bytes a) in
    let some = c.in-Ok.ensures.on (omega (arith, rest, length-drop a bytes, c.loop-fit-test.true)) in
    omega (arith, some, c.loop-fit-test.true)

pub loop-fit-preserved : goal.loop-fit-preserved
loop-fit-preserved c =
    let inv = c.loop-fit.invariant in
    let done = c.in-Ok.ensures in
    let first = c.args.live.now in
    let live = c.loop-fit.live in
    let bytes = c.args.bytes.now in
    let a = c.loop-fit.fit.taken in
    let n = c.in-Ok.more.taken in
    let joins = c.pieces_join.ensures in
    let range = c.requires.range in
    let lawful = c.requires.lawful in
    let room = c.loop-fit.room in
    let is = take_rest bytes a in
    let count = done.count ∙ ap (λ (xs : List ℕ). length (completed live (take n xs))) is in
    let joined = joined-items joins first live bytes a range lawful inv.after n in
    let both = joined-count joins first live bytes a range lawful inv.after n c.loop-fit.fit.count c.in-Ok.more.count inv.count count in
    let fits : c.loop-fit.fit.count + c.in-Ok.more.count ≤ length c.args.room.now = omega (arith, done.room, length-take (length room - c.loop-fit.fit.count) (drop c.loop-fit.fit.count room), length-drop c.loop-fit.fit.count room, inv.room, inv.same) in
    let filled = filled-piece (completed first (take a bytes)) (completed live (take n (drop a bytes))) (completed first (take (a + n) bytes)) c.loop-fit.fit.count
    c.args.room.now room c.take_piece-in-loop-fit.new.room joined inv.count (omega (arith, inv.room, inv.same)) inv.filled (rw is at done.filled) in
    record {
      within = omega (arith, done.within, ap (λ (xs : List ℕ). length xs) is, length-drop a bytes, inv.within);
      some = λ h. omega (arith, inv.some h);
      after = done.after ∙ ap (λ (xs : List ℕ). live_next live (take n xs)) is ∙ joined-next joins first live bytes a range lawful inv.after n;
      laid = done.laid;
      says = subst (λ (t : Terms). stream_of t c.take_piece-in-loop-fit.new.stream ≡ c.take_piece-in-loop-fit.new.live) (done.terms ∙ ap (λ (l : LiveOf). l.terms) inv.after) done.says;
      live = done.live;
      rules = ap (λ (t : Terms). t.rules) done.terms ∙ inv.rules;
      filled = filled;
      count = both;
      room = fits;
      same = filled-long (completed first (take (a + n) bytes)) c.args.room.now _ filled (omega (arith, both, fits));
      capacity = omega (arith, done.capacity, inv.capacity);
    }

pub returns-in-Err-clause-most : goal.returns-in-Err-clause-most
returns-in-Err-clause-most c =
    let inv = c.loop-fit.invariant in
    let refused = c.in-Err.ensures in
    let bytes = c.args.bytes.now in
    let a = c.loop-fit.fit.taken in
    let room = c.loop-fit.room in
    let rest : 0 < length (drop a bytes) = omega (arith, length-drop a bytes, c.loop-fit-test.true) in
    all-taken c.pieces_join.ensures c.args.live.now c.loop-fit.live bytes a c.requires.range c.requires.lawful inv.after (length c.args.room.now) c.loop-fit.fit.count
    (inv.some (omega (arith, c.loop-fit-test.true))) inv.count rest
    (omega (
      arith,
      rw (take_rest bytes a) at refused.small,
      length-take (length room - c.loop-fit.fit.count) (drop c.loop-fit.fit.count room),
      length-drop c.loop-fit.fit.count room,
      inv.same,
    ))

pub returns-clause-most : goal.returns-clause-most
returns-clause-most c = inl (omega (arith, c.loop-fit-test.false, c.loop-fit.invariant.within))
