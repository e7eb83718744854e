use Rattle.std.proofs.Math.Logic.{∥∥₁_map}
use Rattle.rds_tool.proofs.Tied.{appends_more, appends_kept}
use Rattle.rds_tool.proofs.devices.ToWriteSink.write.Goals as goal

pub invariant_of-self : goal.invariant_of-self
invariant_of-self g c = record {
  tied = ∥∥₁_map c.args.self.now.tied (λ t. rw c.note.ensures (appends_more _ _ _ _ _ t c.in-Ok.ensures.bytes));
}

pub invariant_of-self-in-Err : goal.invariant_of-self-in-Err
invariant_of-self-in-Err g c = record {
  tied = ∥∥₁_map c.args.self.now.tied (λ t. appends_kept _ _ _ _ t c.in-Err.ensures.bytes);
}

pub invariant_of-self-else-count-eq0 : goal.invariant_of-self-else-count-eq0
invariant_of-self-else-count-eq0 g c = record {
  tied = ∥∥₁_map c.args.self.now.tied (λ t. rw c.note.ensures (appends_more _ _ _ _ _ t c.in-Ok.ensures.bytes));
}

pub invariant_of-self-else-not-is_empty : goal.invariant_of-self-else-not-is_empty
invariant_of-self-else-not-is_empty g c = record {
  tied = ∥∥₁_map c.args.self.now.tied (λ t. rw c.note.ensures (appends_more _ _ _ _ _ t c.in-Ok.ensures.bytes));
}
