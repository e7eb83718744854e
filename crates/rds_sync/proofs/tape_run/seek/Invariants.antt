use Rattle.rds_sync.proofs.Names.{◌≡◌, ◌≤◌, ◌<◌, ◌+◌, ◌-◌, ◌*◌, ℕ, None, acquired}
use Rattle.rds_sync.proofs.tape_run.seek.Given as goal

abbrev pub invariant-loop-here : goal.invariant-loop-here
invariant-loop-here g l = record {
  silent : (i : ℕ) → l.place ≤ i → i < l.here → acquired (g.T.Tape.signal l.fn.tape) l.rules i ≡ None;
  reads : g.T.Tape.reads_made l.tape ≤ g.T.Tape.reads_made l.fn.tape + (l.rules.reach + 1) * (l.here - l.place);
  same : g.T.Tape.signal l.tape ≡ g.T.Tape.signal l.fn.tape;
  counts : l.counts ≡ l.fn.counts;
}
