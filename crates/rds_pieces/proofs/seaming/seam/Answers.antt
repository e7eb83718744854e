use Rattle.rds_pieces.proofs.SoonLemmas.{soon_met}
use Rattle.rds_pieces.proofs.seaming.seam.Goals as goal

pub returns-in_err-report-clause-reads_way : goal.returns-in_err-report-clause-reads_way
returns-in_err-report-clause-reads_way g c = rw (← c.range-from.ensures.first, ← c.range-from.ensures.end) c.go_beside.ensures.reads_way

pub returns-clause-reads_way : goal.returns-clause-reads_way
returns-clause-reads_way g c = rw (← c.range-from.ensures.first, ← c.range-from.ensures.end) c.go_beside.ensures.reads_way

pub returns-clause-met : goal.returns-clause-met
returns-clause-met g c = rw (← c.range-from.ensures.first, ← c.range-from.ensures.end) c.in_ok-beside.ensures.met

pub returns-clause-reads : goal.returns-clause-reads
returns-clause-reads g c = returns-clause-reads_way g c c.in_ok-beside.beside.met_at (returns-clause-met g c)

pub returns-clause-soon : goal.returns-clause-soon
returns-clause-soon g c =
    let r = c.args.run.now in
    let some = rw c.requires.rules at c.range-from.ensures.rules in
    soon_met (g.T.Tape.signal c.args.tape.now) c.args.rules.now c.args.state _ r.from r.to c.run_laws.ensures c.runs_converge.ensures.fours c.runs_converge.ensures.converge
    some.loss.0 some.some_reach c.requires.lawful tt c.in_ok-beside.beside.met_at (returns-clause-met g c)

pub returns-clause-totals : goal.returns-clause-totals
returns-clause-totals g c = rw (← c.requires.source, ← c.requires.rules) c.in_ok-report.ensures.totals
