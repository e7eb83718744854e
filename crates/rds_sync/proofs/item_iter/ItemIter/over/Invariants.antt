use Rattle.rds_sync.proofs.Names.{◌≡◌, ◌++◌, All, drop, IsSpan, items_in}
use Rattle.rds_sync.proofs.item_iter.ItemIter.over.Given as goal

-- this many items were passed over
abbrev pub invariant-loop-number : goal.invariant-loop-number
invariant-loop-number l =
    All (IsSpan l.recording l.rules) l.rest
    × (l.decoder.items ++ items_in l.recording l.rules l.rest ≡ drop l._number (items_in l.recording l.rules l.spans))
