use Rattle.rds_sync.proofs.Lemmas.{common_steps, ℕ, ◌≡◌, ◌+◌, ap, sym, subst, ◌∙◌, arith, inr, Signal, List, Item, Lock, State, Locked, IsLawful, lock_after, some_given, items-acquiring, HasFound, found-first, lawful-acquired, quiet-acquired, run-unfound, WindowsLeft, FindsFirst, None, run-quiet}
use Rattle.rds_sync.proofs.stretches.search.Goals.{After-number}
use Rattle.rds_sync.proofs.stretches.search.Goals as goal

left_is : (b read : Signal) (place to : ℕ) (left : WindowsLeft) → left ≡ record { signal = read; next = place; end = to } → read ≡ b → left ≡ record { signal = b; next = place; end = to }
left_is b read place to left is same = is ∙ ap (λ (s : Signal). record { signal = s; next = place; end = to }) same

found : (c : After-number) → HasFound c.args.reader.now c.args.rules.now c.args.place c.args.to c.in-Some.here c.number.result c.next_acquiring.new.windows
found c = found-first _ _ c.args.place c.args.to c.in-Some.here c.number.result c.in-Some.offset c.new-windows.result _ c.number.ensures (left_is _ _ _ _ _ c.new-windows.ensures c.recording-rec.ensures) c.in-Some.ensures

pub returns-in-Some-clause-reached : goal.returns-in-Some-clause-reached
returns-in-Some-clause-reached c =
    let b = c.args.reader.now in
    let rules = c.args.rules.now in
    let here = c.in-Some.here in
    let x = c.number.result in
    let found = found (goal.at.returns-in-Some-clause-reached c).After-number in
    let lock_is : Locked c.lock.result ≡ Locked (lock_after here x 0 x) = ap (λ (lock : Lock). Locked lock) c.lock.ensures in
    let items = c.items.ensures b c.window.ensures.value ∙ sym (items-acquiring b rules here x found.there) in
    record {
      forward = omega (arith, found.from_on);
      limit = omega (arith, found.before);
      state = lock_is ∙ sym (ap (λ (r : State × List Item). r.0) found.run_is);
      items = items ∙ sym (ap (λ (r : State × List Item). r.1) found.run_is);
      quiet = quiet-acquired b rules here x found.there c.args.place found.from_on found.none;
      ended = inr (some_given _ _ _ (items ∙ items-acquiring b rules here x found.there));
      lawful = subst (λ (t : State). IsLawful rules (here + 1) t) (sym lock_is) (lawful-acquired b rules here x found.there c.reach.ensures.range.loss.0);
    }

pub window-requires-clause-first : goal.window-requires-clause-first
window-requires-clause-first c = let found = found (goal.at.window-requires-clause-first c).After-number in omega (arith, found.late)

pub items-requires : goal.items-requires
items-requires c = let found = found (goal.at.items-requires c).After-number in record { block = (omega (arith, found.late), c.window.ensures.block) }

pub returns-in-None-clause-reached : goal.returns-in-None-clause-reached
returns-in-None-clause-reached c =
    let b = c.args.reader.now in
    let rules = c.args.rules.now in
    let none = subst (λ (w : WindowsLeft). FindsFirst rules w None c.next_acquiring.new.windows) (left_is _ _ _ _ _ c.new-windows.ensures c.recording-rec.ensures) c.in-None.ensures in
    let run_is = run-unfound b rules c.args.place c.args.to (omega (arith, c.requires.order)) none in
    grind (arith, common_steps, run_is, run-quiet)
