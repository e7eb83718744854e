use Rattle.rds_sync.proofs.Lemmas.{common_steps, ◌≡◌, ℕ, ◌+◌, ◌<◌, ◌≤◌, List, [], ◌∷◌, length, length-append, append_assoc, refl, ap, subst, ◌∙◌, arith, Signal, Lock, Item, Group, group, HasGiven, HasPushed, RuleNumbers, run, one_more}
use Rattle.rds_sync.proofs.whole_groups.push_whole_groups.Goals as goal

-- one whole group more
module _ (b : Signal) (rules : RuleNumbers) (lock now : Lock) (to : ℕ) (before items after : List Item) (given : HasGiven b rules lock to before now items)
    (start : 25 ≤ lock.due) (room : now.due + 78 < to) (bad : ℕ) (pushed : HasPushed b rules now.due now.bad items after bad) where
  longer : length after ≡ length items + 1
  longer = ap (λ (is : List Item). length is) pushed.1 ∙ length-append items (Group (group b rules 1 4 (now.due + 78)) ∷ [])

  pub further : HasGiven b rules lock to before (record { due = now.due + 104; number = now.number; bad = bad; first = now.first }) after
  further = grind (arith, common_steps, run, one_more, longer, length-append, group, append_assoc)

pub loop-now-preserved : goal.loop-now-preserved
loop-now-preserved c =
    let b = c.args.reader.now in
    let rules = c.args.rules.now in
    let l = c.loop-now in
    let now = l.now in
    let far = l.invariant.0 in
    let late : 25 ≤ now.due = omega (arith, c.requires.start, far.given.from_on) in
    let more = c.push_whole.new.part.items in
    let pushed = subst (λ (s : Signal). HasPushed s rules now.due now.bad l.part.items more c.in-Some.bad) far.same
    (c.in-Some.ensures.pushed l.reader now.due late refl c.four_windows.ensures.value) in
    let one : length more ≡ length l.part.items + 1 = longer b rules c.args.lock now c.args.to c.args.part.now.items l.part.items more far.given c.requires.start c.loop-now-test.true c.in-Some.bad pushed in (
      record {
        same = c.four_windows.ensures.same ∙ far.same;
        near = omega (arith, c.loop-now-test.true, c.if-prove.false, c.len.ensures.limit);
        given = further b rules c.args.lock now c.args.to c.args.part.now.items l.part.items more far.given c.requires.start c.loop-now-test.true
            c.in-Some.bad pushed;
        within = omega (arith, one, c.if-len-most.true);
      },
      c.push_whole.ensures.room ∙ l.invariant.1,
    )
