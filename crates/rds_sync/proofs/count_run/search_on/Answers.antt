use Rattle.rds_sync.proofs.Lemmas.{common_steps, ◌≡◌, ◌≤◌, ◌<◌, ◌+◌, ◌-◌, ◌++◌, ℕ, List, [], Some, None, refl, ap, sym, subst, ◌∙◌, arith, Signal, WindowsLeft, FindsFirst, Offset, number, Item, Lock, State, Searching, Locked, IsCountStretch, CountOf, added, has_number, HasFound, IsLostAtOnce, IsLawful, RuleNumbers, items_at, run, lock_after, added-further, found-first, lawful-acquired, run-unfound, run-further, acquired-number, short-run, short-counts}
use Rattle.rds_sync.proofs.count_run.search_on.{Invariants.HasSearchedOn, Goals.After-add_loss}
use Rattle.rds_sync.proofs.count_run.search_on.Goals as goal

module _ {b read : Signal} {rules : RuleNumbers} {place to : ℕ} {old : WindowsLeft} {before counts : CountOf}
    (searched : HasSearchedOn b read rules place to old before counts) where
  -- the run goes on from the windows that are left to a later place
  module _ (later : ℕ) (t : State) (more : List Item) (after : CountOf) (low : old.next ≤ later) (high : later ≤ to)
      (is : run b rules Searching old.next (later - old.next) ≡ (t, more)) (counted : after ≡ added counts more) where
    run_to : run b rules Searching place (later - place) ≡ (t, searched.found ++ more)
    run_to =
        run-further b rules Searching Searching t searched.found more place old.next later searched.from_on low searched.so_far
        (sym (ap (λ (r : State × List Item). r.0) is)) (sym (ap (λ (r : State × List Item). r.1) is))

    counts_to : after ≡ added before (searched.found ++ more)
    counts_to = added-further before counts after searched.found more searched.counts_are counted

    reached : (u : State) → place < later → u ≡ t → IsLawful rules later u → IsCountStretch b rules Searching place to before (later, u) after
    reached u forward state lawful = record {
      forward = forward;
      limit = high;
      state = state ∙ sym (ap (λ (r : State × List Item). r.0) run_to);
      counts = counts_to ∙ ap (λ (r : State × List Item). added before r.1) (sym run_to);
      lawful = lawful;
    }

  -- the place that acquires
  found : (here x : ℕ) (o : Offset) (left : WindowsLeft) → x ≡ number o → FindsFirst rules old (Some (here, o)) left → HasFound b rules old.next to here x left
  found here x o left number_is first = found-first b rules old.next to here x o old left number_is searched.left_is first

-- the lock that its second block loses
module _ (c : After-add_loss) (here : HasFound c.args.reader.now c.args.rules.now c.loop-here.windows.next c.args.to c.in-Some.here c.number-number.result c.next_acquiring.new.windows) where
  lost : IsLostAtOnce c.args.reader.now c.args.rules.now c.in-Some.here c.number-number.result c.args.to c.in-Some-word_if_lost.word
  lost = subst (λ (signal : Signal). IsLostAtOnce signal c.args.rules.now c.in-Some.here c.number-number.result c.args.to c.in-Some-word_if_lost.word) c.loop-here.invariant.same c.in-Some-word_if_lost.ensures.lost

  abbrev first : List Item
  first = items_at c.args.reader.now c.args.rules.now c.in-Some.here Searching

  abbrev second : List Item
  second = items_at c.args.reader.now c.args.rules.now (c.in-Some.here + 26) (Locked (lock_after c.in-Some.here c.number-number.result 0 c.number-number.result))

  run_is : run c.args.reader.now c.args.rules.now Searching c.loop-here.windows.next (c.in-Some.here + 27 - c.loop-here.windows.next) ≡ (Searching, first ++ second)
  run_is = short-run c.args.reader.now c.args.rules.now c.in-Some.here c.number-number.result c.args.to c.in-Some-word_if_lost.word here.there lost c.loop-here.windows.next here.from_on here.none

  counts_are : c.add_loss.new.self ≡ added c.loop-here.counts (first ++ second)
  counts_are =
      added-further c.loop-here.counts c.add_found.new.counts c.add_loss.new.self first second (c.add_found.ensures.given c.args.reader.now c.args.rules.now here.there)
      (short-counts c.args.reader.now c.args.rules.now c.in-Some.here c.number-number.result c.args.to c.in-Some-word_if_lost.word here.there lost c.add_found.new.counts c.add_group.new.self c.add_loss.new.self
      c.add_group.ensures c.add_loss.ensures)

pub add_found-requires-clause-late : goal.add_found-requires-clause-late
add_found-requires-clause-late c = let here = found c.loop-here.invariant _ _ _ _ c.number-number.ensures c.in-Some.ensures in omega (arith, here.late)

pub word_if_lost-requires-clause-valid : goal.word_if_lost-requires-clause-valid
word_if_lost-requires-clause-valid c =
    let here = found c.loop-here.invariant _ _ _ _ c.number-number.ensures c.in-Some.ensures in
    (omega (arith, here.late), ap (λ (signal : Signal). has_number signal c.in-Some.here c.number-number.result) c.loop-here.invariant.same ∙ acquired-number _ _ _ _ here.there)

pub returns-in_default-word_if_lost-clause-reached : goal.returns-in_default-word_if_lost-clause-reached
returns-in_default-word_if_lost-clause-reached c =
    let here = found c.loop-here.invariant _ _ _ _ c.number-number.ensures c.in-Some.ensures in
    let b = c.args.reader.now in
    let rules = c.args.rules.now in
    let place = c.in-Some.here in
    let x = c.number-number.result in
    let searched = c.loop-here.invariant in
    let lock_is : Locked c.after_block-lock.result ≡ Locked (lock_after place x 0 x) =
    ap (λ (lock : Lock). Locked lock) c.after_block-lock.ensures ∙ ap (λ (n : ℕ). Locked (lock_after place n 0 n)) c.get-number.ensures.value in
    reached searched (place + 1) (Locked (lock_after place x 0 x)) (items_at b rules place Searching) c.add_found.new.counts (omega (arith, here.from_on)) (omega (arith, here.before)) here.run_is
    (c.add_found.ensures.given b rules here.there) (Locked c.after_block-lock.result) (omega (arith, here.from_on, searched.from_on)) lock_is
    (subst (λ (t : State). IsLawful rules (place + 1) t) (sym lock_is) (lawful-acquired b rules place x here.there c.reach.ensures.range.loss.0))

pub returns-then-items-most-clause-reached : goal.returns-then-items-most-clause-reached
returns-then-items-most-clause-reached c =
    let here = found c.loop-here.invariant _ _ _ _ c.number-number.ensures c.in-Some.ensures in
    let d = (goal.at.returns-then-items-most-clause-reached c).After-add_loss in
    let searched = c.loop-here.invariant in
    reached searched (c.in-Some.here + 27) Searching (first d here ++ second d here) c.add_loss.new.self (omega (arith, here.from_on)) (omega (arith, (lost d here).before)) (run_is d here)
    (counts_are d here) Searching (omega (arith, here.from_on, searched.from_on)) refl tt

pub loop-here-preserved : goal.loop-here-preserved
loop-here-preserved c =
    let here = found c.loop-here.invariant _ _ _ _ c.number-number.ensures c.in-Some.ensures in
    let d = (goal.at.loop-here-preserved c).After-add_loss in
    let searched = c.loop-here.invariant in
    let to : c.in-Some.here + 27 ≤ c.args.to = omega (arith, (lost d here).before) in
    let left_is : c.pass.new.self ≡ record { signal = c.args.reader.now; next = c.in-Some.here + 27; end = c.args.to } =
    c.pass.ensures ∙ ap (λ (w : WindowsLeft). record { signal = w.signal; next = c.in-Some.here + 27; end = w.end }) here.left_is in
    subst (λ (w : WindowsLeft). HasSearchedOn c.args.reader.now c.word_if_lost.new.reader c.args.rules.now c.args.place c.args.to w c.args.counts.now c.add_loss.new.self) (sym left_is) (record {
      same = c.in-Some-word_if_lost.ensures.same ∙ searched.same;
      left_is = refl;
      from_on = omega (arith, here.from_on, searched.from_on);
      limit = to;
      found = searched.found ++ (first d here ++ second d here);
      so_far = run_to searched (c.in-Some.here + 27) Searching (first d here ++ second d here) c.add_loss.new.self (omega (arith, here.from_on)) to (run_is d here) (counts_are d here);
      few = omega (arith, c.requires.most, c.items.ensures.value, c.if-items-most.false);
      counts_are = counts_to searched (c.in-Some.here + 27) Searching (first d here ++ second d here) c.add_loss.new.self (omega (arith, here.from_on)) to (run_is d here) (counts_are d here);
    })

pub returns-clause-reached : goal.returns-clause-reached
returns-clause-reached c =
    let b = c.args.reader.now in
    let rules = c.args.rules.now in
    let searched = c.loop-here.invariant in
    let none = subst (λ (w : WindowsLeft). FindsFirst rules w None c.next_acquiring.new.windows) searched.left_is c.in_default.ensures in
    reached searched c.args.to Searching [] c.loop-here.counts searched.limit (omega arith) (run-unfound b rules c.loop-here.windows.next c.args.to searched.limit none) refl Searching c.requires.order refl tt

pub after_block-lock-requires : goal.after_block-lock-requires
after_block-lock-requires = grind (arith, common_steps)
