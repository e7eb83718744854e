use Rattle.rds_sync.proofs.Lemmas.{common_steps, ◌≡◌, ℕ, ◌+◌, ◌-◌, ◌<◌, ◌≤◌, List, [], ◌∷◌, ap, subst, ◌∙◌, arith, Signal, Lock, Group, Loss, Locked, group, HasCountedOn, CountOf, joined, group_count, Outcome, IsKeptOver, blocks_in, RuleNumbers, run, added-further, group-added, outcomes, one_more}
use Rattle.rds_sync.proofs.whole_groups.count_whole_groups.Goals as goal

-- one whole group more
module _ (b : Signal) (rules : RuleNumbers) (lock now : Lock) (to : ℕ) (before counts after : CountOf) (passed : HasCountedOn b rules lock to before now counts)
    (start : 25 ≤ lock.due) (room : now.due + 78 < to) (word bad : ℕ)
    (word_is : blocks_in word ≡ outcomes (group b rules 1 4 (now.due + 78))) (over : IsKeptOver rules.loss (blocks_in word) now.bad bad)
    (pushed : after ≡ joined counts (group_count (blocks_in word))) where
  pub further : HasCountedOn b rules lock to before (record { due = now.due + 104; number = now.number; bad = bad; first = now.first }) after
  further =
      let the_group = group b rules 1 4 (now.due + 78) in
      let kept = subst (λ (os : List Outcome). IsKeptOver rules.loss os now.bad bad) word_is over in
      let total = one_more b rules lock now bad start passed.from_on passed.between passed.state kept.kept kept.bad in
      let counts = added-further before counts after (run b rules (Locked lock) (lock.due - 25) (now.due - lock.due)).1 (Group the_group ∷ []) passed.counts (pushed ∙ group-added counts the_group (blocks_in word) word_is) in
      grind (arith, common_steps, total, counts, over)

pub loop-items-preserved : goal.loop-items-preserved
loop-items-preserved c =
    let b = c.args.reader.now in
    let rules = c.args.rules.now in
    let l = c.loop-items in
    let now = l.now in
    let same = l.invariant.same in
    let room : now.due + 78 < c.args.to = omega (arith, c.if-to-now.false) in
    let w = c.whole_word-word.result in
    let word_is : blocks_in w ≡ outcomes (group b rules 1 4 (now.due + 78)) = c.whole_word-word.ensures.blocks ∙ ap (λ (s : Signal). outcomes (group s rules 1 4 (now.due + 78))) same in
    let bad = c.in-Some.bad in
    let more = further b rules c.args.lock now c.args.to c.args.counts.now l.counts c.add_group.new.self l.invariant.passed c.requires.start room w bad word_is
    (subst (λ (loss : Loss). IsKeptOver loss (blocks_in w) now.bad bad) c.loss-loss.ensures.value c.in-Some.ensures) c.add_group.ensures in
    record {
      same = c.whole_word-word.ensures.same ∙ same;
      near = omega (arith, room, c.if-prove.false, c.len.ensures.limit);
      passed = more;
      items = omega (arith, ap (λ (k : CountOf). k.items) c.add_group.ensures, l.invariant.items);
      stays = λ same. absurd (omega (arith, same, l.invariant.passed.from_on));
    }
