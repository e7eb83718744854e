use Rattle.std.proofs.Common.{inr}
use Rattle.rds_tool.proofs.{Encoding.faulty_line, Encoding.faulty_text, Encoding.fine_text, group_lines.GroupLines.finish.Goals.else-branch-via-then-branch+else-not-is_faulty, group_lines.GroupLines.finish.Goals.else-branch-via-else-branch}
use Rattle.rds_tool.proofs.group_lines.GroupLines.finish.Goals as goal

pub returns-then-not-is_faulty-clause-ok : goal.returns-then-not-is_faulty-clause-ok
returns-then-not-is_faulty-clause-ok c = rw (← c.self.view_is)
    (λ hex. fine_text _ _ _ _ hex _ c.self.invariant c.if-not-is_faulty.true _ (c.in_ok-push_line.ensures.fine c.if-branch.true))

pub returns-else-branch-clause-refused : goal.returns-else-branch-clause-refused
returns-else-branch-clause-refused c = rw (← c.self.view_is) (elim c.else-branch.branch [
  | else-branch-via-then-branch+else-not-is_faulty w ↦ (λ hex. inr (faulty_text _ _ _ _ hex _ c.self.invariant w.if-not-is_faulty.false))
  | else-branch-via-else-branch w ↦ (λ hex. inr (faulty_line _ _ _ _ hex _ c.self.invariant (c.in_ok-push_line.ensures.faulty w.if-branch.false hex)))
])
