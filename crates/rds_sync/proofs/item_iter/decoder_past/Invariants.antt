use Rattle.rds_sync.proofs.Names.{◌≡◌, ◌-◌, drop, run}
use Rattle.rds_sync.proofs.item_iter.decoder_past.Given as goal

-- this many items were passed over
abbrev pub invariant-loop-number : goal.invariant-loop-number
invariant-loop-number l =
    l.decoder.items ≡ drop l._number (run l.recording l.rules l.fn.state l.from (l.to - l.from)).1
