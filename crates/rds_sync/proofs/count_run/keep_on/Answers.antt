use Rattle.rds_sync.proofs.Lemmas.{common_steps, ◌≡◌, ℕ, ◌-◌, ◌<◌, ◌≤◌, List, ◌++◌, refl, ap, ◌∙◌, arith, inl, Signal, Lock, Item, State, Locked, CountOf, HasCountedOn, IsCountStretch, IsLawful, IsLawfulLock, RuleNumbers, run, run-early, run_places}
use Rattle.rds_sync.proofs.count_run.keep_on.Goals as goal

module _ (b : Signal) (rules : RuleNumbers) (lock next : Lock) (place to : ℕ) (before after : CountOf) (passed : HasCountedOn b rules lock to before next after)
    (lawful : IsLawfulLock rules place lock) (start : 25 ≤ lock.due) (more : lock.due < next.due) where
  -- the wait before the place changes nothing
  same-run : run b rules (Locked lock) (lock.due - 25) (next.due - lock.due) ≡ run b rules (Locked lock) place (next.due - 25 - place)
  same-run =
      let soon = lawful.soon in
      let far = passed.far more in
      let count : next.due - lock.due ≡ next.due - 25 - (lock.due - 25) = omega (arith, start, more) in
      ap (λ (n : ℕ). run b rules (Locked lock) (lock.due - 25) n) count
      ∙ run_places b rules (Locked lock) (lock.due - 25) place (next.due - 25) (omega (arith, soon.1)) (omega (arith, soon.0, far))
      ∙ ap (λ (r : State × List Item). ((run b rules r.0 place (next.due - 25 - place)).0, r.1 ++ (run b rules r.0 place (next.due - 25 - place)).1))
      (run-early b rules (Locked lock) (lock.due - 25) place lock refl (omega (arith, soon.1)) soon.0)

  lawful-next : IsLawful rules (next.due - 25) (Locked next)
  lawful-next =
      let far = passed.far more in
      record {
        soon = (omega arith, omega arith);
        late = omega (arith, lawful.late, more);
        few_bad = passed.few_bad;
        enough_bits = omega (arith, passed.between.0, start, more);
        in_order = inl passed.between;
      }

  stretch-is : IsCountStretch b rules (Locked lock) place to before (next.due - 25, Locked next) after
  stretch-is = grind (arith, common_steps, same-run, lawful-next)

pub count_whole_groups-next-requires-clause-near : goal.count_whole_groups-next-requires-clause-near
count_whole_groups-next-requires-clause-near c = let soon = c.requires.lawful.soon in omega (arith, soon.1, c.requires.order, c.if-prove.false, c.len.ensures.limit)

pub returns-then-next-lock-clause-reached : goal.returns-then-next-lock-clause-reached
returns-then-next-lock-clause-reached c =
    let room = c.requires.lawful.enough_bits in
    stretch-is c.args.reader.now c.args.rules.now c.args.lock c.count_whole_groups-next.result c.args.place c.args.to c.args.counts.now c.count_whole_groups-next.new.counts c.count_whole_groups-next.ensures.passed
    c.requires.lawful (omega (arith, room)) c.if-next-lock.true
