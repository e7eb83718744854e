use Rattle.rds_sync.proofs.Names.{All, length, Signal, IsAt, IsSpan, RuleNumbers}
use Rattle.rds_sync.proofs.items.spans_from.Given as goal

abbrev pub invariant-loop-span : goal.invariant-loop-span
invariant-loop-span l = (b : Signal) (rules : RuleNumbers) → All (IsSpan b rules) l.spans → IsAt b rules l.spans l.from l.rest l.left

abbrev pub decreases-loop-span : goal.decreases-loop-span
decreases-loop-span l = length l.rest
