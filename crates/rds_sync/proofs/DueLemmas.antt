-- The block that is due: its effect on its lock, and its items.
use Rattle.rds_sync.proofs.Names.{common_steps, ◌≡◌, ℕ, ◌+◌, ◌<◌, [], ◌∷◌, Bool, true, false, refl, sym, ap, ◌∙◌, arith, eq-eqb, ne_eqb, Signal, Due, Inside, Closed, Lock, Group, LostLock, Searching, Locked, has_number, state_of, IsKept, IsAfter, group, bad_after, are_too_many, RuleNumbers, step, items_at, completed_group, lock_of, lock_after, ◌-◌, List, ap₂, Block, blocks_at, IsFollowed, items_of_due, LockLost as Lost}
use Rattle.rds_sync.proofs.{RunLemmas.step-keeping, RunLemmas.items-keeping, RunLemmas.step-losing, RunLemmas.items-losing, GroupBlocks.group-blocks, RunIsReport.some_given}

pub completed_group-inside : (b : Signal) (rules : RuleNumbers) (first number due : ℕ) → number < 4 → completed_group b rules first number due ≡ []
completed_group-inside b rules first number due inside = rw (ne_eqb number 4 (λ e. omega arith), completed_group) refl

pub completed_group-four : (b : Signal) (rules : RuleNumbers) (first number due : ℕ) → number ≡ 4
    → completed_group b rules first number due ≡ Group (group b rules first number due) ∷ []
completed_group-four b rules first number due four = rw (eq-eqb number 4 four, completed_group) refl

module _ (b : Signal) (rules : RuleNumbers) (lock : Lock) (good : Bool) (good_is : good ≡ has_number b lock.due lock.number) where
  -- whether the lock is lost, by whether its block is good
  too_many : (t : Bool) → are_too_many rules.loss (bad_after rules.loss good lock.bad) ≡ t
      → are_too_many rules.loss (bad_after rules.loss (has_number b lock.due lock.number) lock.bad) ≡ t
  too_many t e = ap (λ (g : Bool). are_too_many rules.loss (bad_after rules.loss g lock.bad)) (sym good_is) ∙ e

  -- the block was read, and the lock goes on
  pub step-kept : (next : Lock) → IsKept rules.loss lock good next → step b rules lock.due (Locked lock) ≡ Locked next
  step-kept next kept = grind (arith, common_steps, step-keeping, too_many, lock_after, bad_after)

  pub items-kept : (next : Lock) → IsKept rules.loss lock good next
      → items_at b rules lock.due (Locked lock) ≡ completed_group b rules lock.first lock.number lock.due
  items-kept next kept = items-keeping b rules lock (too_many false kept.few_bad)

  -- the block was read, and the lock is lost
  pub step-lost : are_too_many rules.loss (bad_after rules.loss good lock.bad) ≡ true → step b rules lock.due (Locked lock) ≡ Searching
  step-lost many = step-losing b rules lock (too_many true many)

  pub items-lost : are_too_many rules.loss (bad_after rules.loss good lock.bad) ≡ true
      → items_at b rules lock.due (Locked lock) ≡ Group (group b rules lock.first lock.number lock.due) ∷ LostLock lock.due ∷ []
  items-lost many = items-losing b rules lock (too_many true many)

  -- whatever it did, the state is that of the step
  pub step-due : (due : Due) → IsAfter rules.loss lock good due → step b rules lock.due (Locked lock) ≡ state_of due
  step-due due after = grind (arith, common_steps, step-kept, step-lost)

  -- and its items are those of the step
  pub items-inside : (next : Lock) → IsAfter rules.loss lock good (Inside next) → items_at b rules lock.due (Locked lock) ≡ []
  items-inside next after = items-kept next after.1 ∙ completed_group-inside b rules lock.first lock.number lock.due after.0

  pub items-closed : (next : Lock) → IsAfter rules.loss lock good (Closed next)
      → items_at b rules lock.due (Locked lock) ≡ Group (group b rules lock.first lock.number lock.due) ∷ []
  items-closed next after = items-kept next after.1 ∙ completed_group-four b rules lock.first lock.number lock.due after.0

-- the lock goes on inside its group, with the block after
pub kept-next : (lock next : Lock) (bad : ℕ) → lock.number < 4 → next ≡ lock_after lock.due lock.number bad lock.first
    → (next.due ≡ lock.due + 26) × (next.number ≡ lock.number + 1) × (next.first ≡ lock.first)
kept-next lock next bad inside is = grind (arith, common_steps, lock_of, ne_eqb)

-- The items of a block that was due, with the blocks of its group.
module _ (b : Signal) (rules : RuleNumbers) (lock : Lock) (good : Bool) (good_is : good ≡ has_number b lock.due lock.number)
    (blocks : List Block) (read : blocks ≡ blocks_at b rules lock.first lock.number lock.due) where
  -- the items that are made of the blocks are those of the step
  pub given-due : (due : Due) → IsAfter rules.loss lock good due → items_of_due lock blocks due ≡ items_at b rules lock.due (Locked lock)
  given-due due after = grind (arith, common_steps, items-inside, group-blocks, items-closed, items-lost)

  -- its group goes on, or an item was given
  pub followed-due : (due : Due) → IsAfter rules.loss lock good due → IsFollowed b rules lock blocks due
  followed-due (Inside next) after =
      let follows = kept-next lock next _ after.0 after.1.next_is in
      let number : lock.number ≡ next.number - 1 = omega (arith, follows.1) in
      let place : lock.due ≡ next.due - 26 = omega (arith, follows.0) in
      record {
        nothing = items-inside b rules lock good good_is next after;
        follows = follows;
        in_progress = read ∙ ap (λ (f : ℕ). blocks_at b rules f lock.number lock.due) (sym follows.2)
            ∙ ap₂ (λ (x p : ℕ). blocks_at b rules next.first x p) number place;
      }
  followed-due (Closed next) after = some_given _ _ _ (items-closed b rules lock good good_is next after)
  followed-due Lost after = some_given _ _ _ (items-lost b rules lock good good_is after)
