use Rattle.rds_pieces.proofs.Names.{arith, common_steps, rules, Searching, end_of, IsMeeting}
use Rattle.rds_pieces.proofs.SoonLemmas.{meet_soon}
use Rattle.rds_pieces.proofs.joining.join_runs.Goals as goal

pub with_rest-requires-clause-totals : goal.with_rest-requires-clause-totals
with_rest-requires-clause-totals g c =
    let sides = c.requires.neighbours in
    rw (← c.end_state.ensures, sides.left_is.0, sides.left_is.1, sides.next, c.range-to.ensures.end) c.in_ok-seam.ensures.totals

pub returns-clause-cost : goal.returns-clause-cost
returns-clause-cost g c =
    let r = c.args.right.now in
    let b = g.T.Tape.signal c.args.tape.now in
    let meeting : IsMeeting b c.args.rules.now (end_of c.args.left.now) Searching r.from r.to c.in_ok-seam.seam.met_at = rw (← c.end_state.ensures) c.in_ok-seam.ensures.met in
    record {
      err = search rules;
      soon = meet_soon b c.args.rules.now (end_of c.args.left.now) Searching r.from r.to c.in_ok-seam.seam.met_at meeting c.in_ok-seam.ensures.soon;
      reads = (c.in_ok-seam.seam.met_at, meeting, c.in_ok-seam.ensures.reads);
      reads_way = λ met first. c.seam.ensures.reads_way met (rw c.end_state.ensures first);
      reads_most = c.seam.ensures.reads_most;
    }

pub returns-in_err-with_rest-clause-cost : goal.returns-in_err-with_rest-clause-cost
returns-in_err-with_rest-clause-cost = grind (arith, common_steps)
