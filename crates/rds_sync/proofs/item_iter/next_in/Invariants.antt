use Rattle.rds_sync.proofs.Names.{◌≡◌, List, [], ◌++◌, All, length, Signal, Span, DecoderOf, IsSpan, items_in, RuleNumbers}
use Rattle.rds_sync.proofs.item_iter.next_in.Given as goal

-- the decoder is done, and the rest is in the spans that are left
pub record IsDone (b : Signal) (rules : RuleNumbers) (before now : DecoderOf) (spans rest : List Span) : Type 0 where
  pub all : All (IsSpan b rules) rest
  pub done : now.items ≡ []
  pub same : before.items ++ items_in b rules spans ≡ items_in b rules rest

abbrev pub invariant-loop-span : goal.invariant-loop-span
invariant-loop-span l = IsDone l.recording l.rules l.fn.decoder l.decoder l.spans l.rest

abbrev pub decreases-loop-span : goal.decreases-loop-span
decreases-loop-span l = length l.rest
