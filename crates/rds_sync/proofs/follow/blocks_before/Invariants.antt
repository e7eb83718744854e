use Rattle.rds_sync.proofs.Names.{◌≡◌, ◌≤◌, ◌+◌, ◌-◌, ◌*◌, blocks_at}
use Rattle.rds_sync.proofs.follow.blocks_before.Given as goal

-- the blocks before this number were read
abbrev pub invariant-loop-number : goal.invariant-loop-number
invariant-loop-number g l = record {
  same : g.T.Tape.signal l.tape ≡ g.T.Tape.signal l.fn.tape;
  read : l.blocks ≡ blocks_at (g.T.Tape.signal l.fn.tape) l.rules l.lock.first (l.number - 1) (l.lock.due - 26 * (l.lock.number - l.number) - 26);
  reads : g.T.Tape.reads_made l.tape ≤ g.T.Tape.reads_made l.fn.tape + (l.number - l.lock.first);
}
