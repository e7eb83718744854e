use Rattle.rds_sync.proofs.Names.{◌≡◌, ◌≤◌, ◌-◌, ℕ, List, Signal, WindowsLeft, Item, Searching, CountOf, added, RuleNumbers, run}
use Rattle.rds_sync.proofs.count_run.search_on.Given as goal

-- the run up to the windows that are left searches again, and what it gave is kept; what is read is the recording
pub record HasSearchedOn (b read : Signal) (rules : RuleNumbers) (place to : ℕ) (left : WindowsLeft) (before counts : CountOf) : Type 0 where
  pub same : read ≡ b
  pub left_is : left ≡ record { signal = b; next = left.next; end = to }
  pub from_on : place ≤ left.next
  pub limit : left.next ≤ to
  pub found : List Item
  pub so_far : run b rules Searching place (left.next - place) ≡ (Searching, found)
  pub few : counts.items ≤ 3000
  pub counts_are : counts ≡ added before found

abbrev pub invariant-loop-here : goal.invariant-loop-here
invariant-loop-here l = HasSearchedOn l.fn.reader l.reader l.rules l.place l.to l.windows l.initial.counts l.counts

abbrev pub decreases-loop-here : goal.decreases-loop-here
decreases-loop-here l = l.to - l.windows.next
