use Rattle.rds_sync.proofs.Names.{◌≡◌, ◌<◌, ◌^◌, All, List, length, take, ℕ, Signal, Start, Span, IsSpan, IsStart, items_in, RuleNumbers}
use Rattle.rds_sync.proofs.indexed_items.starts_of.Given as goal

-- `before` items come before the next span, and all entries kept so far are starts
pub record HasCounted (b : Signal) (rules : RuleNumbers) (spans : List Span) (span before : ℕ) (starts : List Start) : Type 0 where
  pub count : before ≡ length (items_in b rules (take span spans))
  pub all : All (IsStart b rules spans) starts

abbrev pub invariant-loop-span : goal.invariant-loop-span
invariant-loop-span l = (b : Signal) (rules : RuleNumbers) → All (IsSpan b rules) l.spans → length (items_in b rules l.spans) < 2 ^ 64 → HasCounted b rules l.spans l.span l.before l.starts.items
