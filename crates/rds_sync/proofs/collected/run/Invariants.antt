use Rattle.rds_sync.proofs.Names.{◌≡◌, ◌++◌, ◌-◌, run}
use Rattle.rds_sync.proofs.collected.run.Given as goal

-- the items that were collected, with those still to come, are the run's
abbrev pub invariant-loop-item : goal.invariant-loop-item
invariant-loop-item l =
    (goal.iterator-loop-item).can_next l.decoder × (goal.iterator-loop-item).is_finite l.decoder
    × (l.items.items ++ l.decoder.items ≡ (run l.rec l.rules l.fn.state l.from (l.to - l.from)).1)
    × (l.decoder.end ≡ (run l.rec l.rules l.fn.state l.from (l.to - l.from)).0)
