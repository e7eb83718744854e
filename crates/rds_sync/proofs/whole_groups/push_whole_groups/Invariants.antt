use Rattle.rds_sync.proofs.Names.{◌≡◌, ℕ, ◌-◌, ◌^◌, ◌<◌, ◌≤◌, List, length, vec_capacity, Signal, Lock, Item, HasGiven, RuleNumbers}
use Rattle.rds_sync.proofs.whole_groups.push_whole_groups.Given as goal

-- whole groups were given, by a reader of the recording
pub record HasCome (b read : Signal) (rules : RuleNumbers) (lock : Lock) (to : ℕ) (before : List Item) (now : Lock) (items : List Item) (most : ℕ) : Type 0 where
  pub same : read ≡ b
  pub near : now.due < 2 ^ 37
  pub given : HasGiven b rules lock to before now items
  pub within : length items ≤ most

abbrev pub invariant-loop-now : goal.invariant-loop-now
invariant-loop-now l = HasCome l.fn.reader l.reader l.rules l.fn.lock l.to l.initial.part.items l.now l.part.items l.most × (vec_capacity l.part ≡ vec_capacity l.initial.part)

abbrev pub decreases-loop-now : goal.decreases-loop-now
decreases-loop-now l = l.to - l.now.due
