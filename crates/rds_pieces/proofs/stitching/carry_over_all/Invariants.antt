use Rattle.rds_pieces.proofs.Names.{◌≡◌, listed, totals_of}
use Rattle.rds_pieces.proofs.StitchLemmas.{IsStitched}
use Rattle.rds_pieces.proofs.stitching.carry_over_all.Given as goal

abbrev pub invariant-loop-run : goal.invariant-loop-run
invariant-loop-run g l = record {
  stitched : IsStitched (g.T.Tape.signal l.fn.tape) l.rules l.runs (g.T.Tape.reads_made l.fn.tape) l.run-index l.state l.report.items.list (g.T.Tape.reads_made l.tape);
  counted : l.report.totals ≡ totals_of l.report.items.list;
  named : l.report.items ≡ listed (g.T.Tape.signal l.fn.tape) l.rules l.report.items.list;
  same : g.T.Tape.signal l.tape ≡ g.T.Tape.signal l.fn.tape;
}
