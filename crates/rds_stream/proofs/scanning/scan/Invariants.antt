use Rattle.rds_stream.proofs.Names.{◌≡◌, ◌≤◌, ℕ, List, Offset, Signal, valid_windows, WindowsLeft}
use Rattle.rds_stream.proofs.scanning.scan.Given as goal

-- the windows found so far are all that are valid so far
pub record HasScanned (b : Signal) (from to : ℕ) (left : WindowsLeft) (found : List (ℕ × Offset)) : Type 0 where
  pub bits : left.signal ≡ b
  pub end : left.end ≡ to
  pub from_on : from ≤ left.next
  pub limit : left.next ≤ to
  pub so_far : found ≡ valid_windows b from left.next

abbrev pub invariant-loop-window : goal.invariant-loop-window
invariant-loop-window l =
    (goal.iterator-loop-window).can_next l.window-iterator × (goal.iterator-loop-window).is_finite l.window-iterator
    × HasScanned l.recording l.from l.to l.window-iterator l.found.items
