use Rattle.rds_sync.proofs.Lemmas.{common_steps, ◌≡◌, ◌≤◌, ◌<◌, ◌+◌, ◌-◌, ℕ, Some, None, [], ◌∷◌, false, sym, ap, ap₂, subst, ◌∙◌, arith, Signal, Group, Lock, State, Locked, Step, group, bad_over, IsLawfulBad, are_too_many, RuleNumbers, run, lock_of, IsStretch, outcomes, lawful-lock_after, whole_group, whole_quiet}
use Rattle.rds_sync.proofs.whole_groups.whole_group.Goals as goal

-- the step over a whole group is a stretch
module _ (b : Signal) (rules : RuleNumbers) (s : State) (due to bad after : ℕ) (late : 25 ≤ due) (room : due + 78 < to)
    (state : s ≡ Locked (lock_of due 1 bad 1))
    (few : (k : ℕ) → k < 4 → are_too_many rules.loss (bad_over rules.loss (outcomes (group b rules 1 4 (due + 78))) bad 1 (k + 1)) ≡ false)
    (after_is : after ≡ bad_over rules.loss (outcomes (group b rules 1 4 (due + 78))) bad 1 4) (lawful : IsLawfulBad rules.loss after) where
  abbrev next : State
  next = Locked (lock_of (due + 104) 1 after 1)

  abbrev reached : Step
  reached = record { place = due + 78 + 1; state = next; items = Some (Group (group b rules 1 4 (due + 78))) ∷ None ∷ [] }

  over : run b rules s (due - 25) (due + 78 + 1 - (due - 25)) ≡ (next, Group (group b rules 1 4 (due + 78)) ∷ [])
  over = grind (arith, common_steps, whole_group, lock_of, group)

  pub is_stretch : IsStretch b rules s (due - 25) to reached
  is_stretch = grind (arith, common_steps, over, whole_quiet, lock_of, lawful-lock_after)

pub returns-clause-reached : goal.returns-clause-reached
returns-clause-reached c =
    let b = c.args.reader.now in
    let rules = c.args.rules.now in
    let lock = c.args.lock in
    let due = lock.due in
    let place = c.args.place in
    let bad = c.in_ok-group.bad in
    let begins = c.begins_group_at.ensures.0 c.if-not-begins_group_at.false in
    let late : 25 ≤ due = omega (arith, begins.2) in
    let there : due - 25 ≡ place = omega (arith, begins.2) in
    let whole = c.in_ok-group.ensures b due late (sym there) c.four_windows.ensures.value in
    let state : Locked lock ≡ Locked (lock_of due 1 lock.bad 1) = ap₂ (λ (x f : ℕ). Locked (lock_of due x lock.bad f)) begins.0 begins.1 in
    let stretch = is_stretch b rules (Locked lock) due c.args.to lock.bad bad late (omega (arith, c.if-to-last.false)) state whole.kept.kept whole.kept.bad whole.kept.lawful in
    let next_is : Locked c.after_block.result ≡ Locked (lock_of (due + 104) 1 bad 1) =
    ap (λ (l : Lock). Locked l) c.after_block.ensures ∙ ap (λ (p : ℕ). Locked (lock_of p 1 bad 1)) (let e : due + 78 + 26 ≡ due + 104 = omega arith in e) in
    subst (λ (p : ℕ). IsStretch b rules (Locked lock) p c.args.to
    (record { place = due + 78 + 1; state = Locked c.after_block.result; items = Some (Group c.in_ok-group.group) ∷ None ∷ [] })) there
    (rw (next_is, whole.given_is) stretch)
