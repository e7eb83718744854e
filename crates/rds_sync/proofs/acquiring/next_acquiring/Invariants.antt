use Rattle.rds_sync.proofs.Names.{◌≡◌, ◌≤◌, WindowsLeft, NoneAcquires, RuleNumbers}
use Rattle.rds_sync.proofs.acquiring.next_acquiring.Given as goal

-- no place acquires from the first that was left up to those that are
pub record HasSearched (rules : RuleNumbers) (old left : WindowsLeft) : Type 0 where
  pub signal : left.signal ≡ old.signal
  pub end : left.end ≡ old.end
  pub from_on : old.next ≤ left.next
  pub none : NoneAcquires old.signal rules old.next left.next

abbrev pub invariant-loop-here : goal.invariant-loop-here
invariant-loop-here l =
    (goal.iterator-loop-here).can_next l.windows × (goal.iterator-loop-here).is_finite l.windows
    × HasSearched l.rules l.fn.windows l.windows
