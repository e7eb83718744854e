use Rattle.rds_sync.proofs.Names.{◌≡◌, ◌≤◌, ℕ, ◌^◌, ◌<◌, Signal, Lock, CountOf, HasCountedOn, RuleNumbers}
use Rattle.rds_sync.proofs.whole_groups.count_whole_groups.Given as goal

-- whole groups were passed, by a reader of the recording
pub record HasComeOn (b read : Signal) (rules : RuleNumbers) (lock : Lock) (to : ℕ) (before : CountOf) (now : Lock) (counts : CountOf) (taken : ℕ) : Type 0 where
  pub same : read ≡ b
  pub near : now.due < 2 ^ 37
  pub passed : HasCountedOn b rules lock to before now counts
  pub stays : now.due ≤ lock.due → counts ≡ before
  pub items : counts.items ≡ taken

abbrev pub invariant-loop-items : goal.invariant-loop-items
invariant-loop-items l = HasComeOn l.fn.reader l.reader l.rules l.fn.lock l.to l.initial.counts l.now l.counts l._items
