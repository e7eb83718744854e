use Rattle.rds_sync.proofs.Names.{◌-◌, ◌≤◌, All, List, length, Signal, Span, IsStart, RuleNumbers}
use Rattle.rds_sync.proofs.indexed_items.last_start.Given as goal

abbrev pub invariant-loop-low : goal.invariant-loop-low
invariant-loop-low l = ((b : Signal) (rules : RuleNumbers) (spans : List Span) → All (IsStart b rules spans) l.starts → IsStart b rules spans l.found) × (l.found.before ≤ l.from) × (l.low ≤ l.high) × (l.high ≤ length l.starts)

abbrev pub decreases-loop-low : goal.decreases-loop-low
decreases-loop-low l = l.high - l.low
