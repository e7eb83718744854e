use Rattle.rds_pieces.proofs.Names.{◌≡◌, ◌+◌, ◌-◌}
use Rattle.rds_pieces.proofs.Walks.{IsBeside}
use Rattle.rds_pieces.proofs.beside.go_beside.Given as goal

abbrev pub invariant-along : goal.invariant-along
invariant-along g l = record {
  beside : IsBeside (g.T.Tape.signal l.fn.tape) l.fn.rules l.fn.state l.fn.from l.fn.to l.own l.guess (g.T.Tape.reads_made l.tape - g.T.Tape.reads_made l.fn.tape);
  same : g.T.Tape.signal l.tape ≡ g.T.Tape.signal l.fn.tape;
}

abbrev pub decreases-along : goal.decreases-along
decreases-along g l = (l.fn.to - l.own.place) + (l.fn.to - l.guess.place)
