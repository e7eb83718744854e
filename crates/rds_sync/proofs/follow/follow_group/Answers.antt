use Rattle.rds_sync.proofs.Lemmas.{common_steps, ◌≡◌, ◌≤◌, ◌<◌, ◌+◌, ◌-◌, ℕ, List, [], refl, ap, sym, ◌∙◌, arith, inl, Signal, Block, Item, Due, Inside, Closed, Lock, State, Locked, IsLawful, IsLawfulLock, state_of, slots_of, step_by, IsFollowed, items_of_due, IsStretch, ◌≢◌, RuleNumbers, step, items_at, run, items_there as items_in, LockLost as Lost, lawful-due, lawful-waiting, run-further, run-due, run-early, run-quiet}
use Rattle.rds_sync.proofs.follow.follow_group.{Invariants.HasFollowed, Given.Over, Goals.After-follow}
use Rattle.rds_sync.proofs.follow.follow_group.Goals as goal

-- no block closed the group up to `to`
waiting : (b : Signal) (rules : RuleNumbers) (s : State) (place to : ℕ) (now : Lock) (blocks : List Block) → place < to
    → run b rules s place (to - place) ≡ (Locked now, []) → IsLawfulLock rules to now → IsStretch b rules s place to (step_by to now blocks (Inside now))
waiting b rules s place to now blocks order is lawful =
    let nothing = ap (λ (r : State × List Item). r.1) is in
    record {
      forward = order;
      limit = omega arith;
      state = sym (ap (λ (r : State × List Item). r.0) is);
      items = sym nothing;
      quiet = run-quiet b rules s place to order nothing;
      ended = inl refl;
      lawful = lawful;
    }

module _ {b read : Signal} {rules : RuleNumbers} {lock : Lock} {place to : ℕ} {now : Lock} {blocks : List Block} {reads : ℕ}
    (followed : HasFollowed b read rules lock place to now blocks reads) where
  -- the run up to and including the block that is due
  one_more : run b rules (Locked lock) place (now.due + 1 - place) ≡ (step b rules now.due (Locked now), items_at b rules now.due (Locked now))
  one_more =
      let soon = followed.lawful.soon in
      let next_run = run-due b rules (Locked now) followed.next (now.due + 1) now refl soon.0 refl in
      run-further b rules (Locked lock) (Locked now) _ [] _ place followed.next (now.due + 1) followed.from_on (omega (arith, soon.0))
      followed.so_far (sym (ap (λ (r : State × List Item). r.0) next_run)) (sym (ap (λ (r : State × List Item). r.1) next_run))

  -- the run up to a place before the block that is due
  waited : (later : ℕ) → followed.next ≤ later → later ≤ now.due → run b rules (Locked lock) place (later - place) ≡ (Locked now, [])
  waited later low high =
      let wait = run-early b rules (Locked now) followed.next later now refl low high in
      run-further b rules (Locked lock) (Locked now) _ [] [] place followed.next later followed.from_on low followed.so_far
      (sym (ap (λ (r : State × List Item). r.0) wait)) (sym (ap (λ (r : State × List Item). r.1) wait))

-- the block that is due has the same effect over what is read as over the recording
module _ (g : Over) (c : After-follow g) (o : Due) (is : c.follow.result ≡ o) where
  abbrev b : Signal
  b = g.T.Tape.signal c.args.tape.now

  abbrev rules : RuleNumbers
  rules = c.args.rules.now

  abbrev now : Lock
  now = c.loop-now.now

  state_is : state_of o ≡ step b rules now.due (Locked now)
  state_is = ap state_of (sym is) ∙ c.follow.ensures.state ∙ ap (λ (signal : Signal). step signal rules now.due (Locked now)) c.loop-now.invariant.same

  goes : IsFollowed b rules now c.follow.new.blocks o
  goes = grind (arith, common_steps)

  lawful_after : IsLawful rules (now.due + 1) (state_of o)
  lawful_after = grind (arith, common_steps, state_is, lawful-due, rules, state_of, lawful-due b rules c.loop-now.invariant.next now c.reach.ensures.range.loss.0 c.loop-now.invariant.lawful)

  -- the stretch up to it, where it gives items
  reached : items_at b rules now.due (Locked now) ≢ []
      → IsStretch b rules (Locked c.args.lock) c.args.place c.args.to (record { place = now.due + 1; state = state_of o; items = slots_of now c.follow.new.blocks o })
  reached gives = grind (arith, common_steps, one_more, items_of_due, items_at, state_is, waited, lawful_after, items_in, now, b, rules, state_of, one_more c.loop-now.invariant, waited c.loop-now.invariant now.due c.loop-now.invariant.lawful.soon.0 (omega arith))

pub loop-now-preserved : goal.loop-now-preserved
loop-now-preserved g c = grind (arith, common_steps, c.loop-now.invariant, c.loop-now.invariant.lawful.soon, c.in-Inside.is, c.follow.ensures.same, c.follow.ensures.reads, c.loop-now.invariant.same, c.loop-now.invariant.from_on, c.loop-now-test.true, goes g (goal.at.loop-now-preserved g c).After-follow (Inside c.in-Inside.next) c.in-Inside.is, lawful_after g (goal.at.loop-now-preserved g c).After-follow (Inside c.in-Inside.next) c.in-Inside.is, one_more c.loop-now.invariant, state_is g (goal.at.loop-now-preserved g c).After-follow (Inside c.in-Inside.next) c.in-Inside.is)

pub loop-now-smaller : goal.loop-now-smaller
loop-now-smaller g c = let goes_on = goes g (goal.at.loop-now-smaller g c).After-follow (Inside c.in-Inside.next) c.in-Inside.is in omega (arith, goes_on.follows.0, c.loop-now-test.true)

pub returns-in_default-clause-reached : goal.returns-in_default-clause-reached
returns-in_default-clause-reached g c = at_case c.follow.result refl where
  d : After-follow g
  d = (goal.at.returns-in_default-clause-reached g c).After-follow

  at_case : (o : Due) → c.follow.result ≡ o
      → IsStretch (g.T.Tape.signal c.args.tape.now) c.args.rules.now (Locked c.args.lock) c.args.place c.args.to (step_by c.args.to c.loop-now.now c.follow.new.blocks o)
  at_case (Inside next) is = absurd (c.in_default.not-Inside next is)
  at_case (Closed next) is = reached g d (Closed next) is (goes g d (Closed next) is)
  at_case Lost is = reached g d Lost is (goes g d Lost is)

pub returns-then-to-lock-clause-reached : goal.returns-then-to-lock-clause-reached
returns-then-to-lock-clause-reached g c =
    let h = c.requires.ahead in
    waiting _ _ _ _ c.args.to c.args.lock [] h
    (run-early (g.T.Tape.signal c.args.tape.now) c.args.rules.now (Locked c.args.lock) c.args.place c.args.to c.args.lock refl (omega (arith, h)) c.if-to-lock.true)
    (lawful-waiting c.args.rules.now c.args.place c.args.to c.args.lock c.requires.lawful (omega (arith, h)) c.if-to-lock.true)

pub returns-clause-reached : goal.returns-clause-reached
returns-clause-reached g c =
    let followed = c.loop-now.invariant in
    waiting _ _ _ _ c.args.to c.loop-now.now [] c.requires.ahead (waited followed c.args.to followed.limit c.loop-now-test.false)
    (lawful-waiting c.args.rules.now followed.next c.args.to c.loop-now.now followed.lawful followed.limit c.loop-now-test.false)
