use Rattle.rds_pieces.proofs.Names.{ap, TapeState}
use Rattle.rds_pieces.proofs.joining.meet_before.Goals as goal

pub returns : goal.returns
returns c = (c.in_ok-beside.beside.met_at, rw (← ap (λ (t : TapeState). t.signal) c.new-tape.ensures) c.in_ok-beside.ensures.met, c.is_some.ensures)
