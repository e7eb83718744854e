use Rattle.rds_tool.proofs.Names.{◌*◌, ◌+◌, ◌++◌, ◌-◌, ◌≡◌, ◌≤◌, ℕ, List, length, left_of, size_of, text_of, Sheet, Signal, length_of, WindowsLeft}
use Rattle.rds_tool.proofs.ScanRows.{so_far}
use Rattle.rds_tool.proofs.window_rows.WindowRowsRows.fill.Given as goal

-- the rows of all places before those that are left are on the sheet and after it on the page
pub record HasFilled (b : Signal) (from to : ℕ) (left : WindowsLeft) (count : ℕ) (page : List ℕ) (old new : Sheet) : Type 0 where
  pub bits : left.signal ≡ b
  pub end : left.end ≡ to
  pub from_on : from ≤ left.next
  pub limit : left.next ≤ to
  pub inside : to ≤ length_of b
  pub rows : text_of new ++ page ≡ text_of old ++ so_far b from left.next
  pub room : (to - left.next) + count ≤ left_of new
  pub few : count ≤ left.next
  pub short : length page ≤ count * 32
  pub size : size_of new ≡ size_of old

abbrev pub invariant-loop-window : goal.invariant-loop-window
invariant-loop-window l =
    (goal.iterator-loop-window).can_next l.window-iterator × (goal.iterator-loop-window).is_finite l.window-iterator
    × HasFilled l.self.recording.now l.from l.to l.window-iterator l.count l.page l.initial.sheet l.sheet
