use Rattle.rds_pieces.proofs.Names.{common_steps, ◌-◌, refl, ◌∙◌, subst, arith, Signal, tally_at, IsStep}
use Rattle.rds_pieces.proofs.{Walks.IsBeside, Walks.hops_first, Walks.few_in_range, Walks.few_to_meeting, Walks.room_for, Walks.met_least, Walks.step_moves, Paid.paid_start, GoneRuns.gone-none, Apart.at_bit, beside.go_beside.Given.Over, beside.go_beside.Goals.After-hop_first}
use Rattle.rds_pieces.proofs.beside.go_beside.Goals as goal

pub along-init : goal.along-init
along-init g c = grind (arith, common_steps, tally_at, gone-none, paid_start, at_bit, g.T.Tape.signal, g.T.Tape.reads_made, c.requires.lawful, c.requires.order, c.new-own.ensures, c.source.ensures, c.new-guess.ensures, c.source-2.ensures)

pub hop_first-requires-clause-counted : goal.hop_first-requires-clause-counted
hop_first-requires-clause-counted g c =
    room_for c.run_laws.ensures c.reach.ensures.range c.requires.lawful c.along.invariant.beside (g.T.Tape.reads_made c.along.tape) (g.T.Tape.reads_made c.args.tape.now) refl
    (omega (arith, c.len.ensures, c.requires.within)) c.requires.room

-- both are side by side after a hop, too
hopped : (g : Over) (c : After-hop_first g)
    → IsBeside (g.T.Tape.signal c.args.tape.now) c.args.rules.now c.args.state c.args.from c.args.to c.hop_first.new.own c.hop_first.new.guess (g.T.Tape.reads_made c.hop_first.new.tape - g.T.Tape.reads_made c.args.tape.now)
hopped g c =
    let l = c.along in
    let new = c.hop_first.new in
    hops_first c.run_laws.ensures c.reach.ensures.range c.requires.lawful l.invariant.beside (λ m. (let t = c.meet.ensures.1 m in let f = c.if-meet.false in cc))
    (subst (λ (x : Signal). IsStep x c.args.rules.now c.args.to l.own l.guess new.own new.guess (g.T.Tape.reads_made new.tape - g.T.Tape.reads_made l.tape)) l.invariant.same c.hop_first.ensures.step)
    (omega arith)

pub along-preserved : goal.along-preserved
along-preserved g c = record { beside = hopped g (goal.at.along-preserved g c).After-hop_first; same = c.hop_first.ensures.same ∙ c.along.invariant.same }

pub along-smaller : goal.along-smaller
along-smaller g c = let i = c.along.invariant.beside.apart.inside in step_moves c.hop_first.ensures.step i.1 i.3

pub returns-then-meet-clause-met : goal.returns-then-meet-clause-met
returns-then-meet-clause-met g c =
    rw c.met_here.ensures.met (met_least c.run_laws.ensures c.reach.ensures.range c.requires.lawful c.along.invariant.beside (c.meet.ensures.0 c.if-meet.true))

pub returns-then-meet-clause-reads_way : goal.returns-then-meet-clause-reads_way
returns-then-meet-clause-reads_way g c = λ met meeting.
    omega (arith, few_to_meeting c.run_laws.ensures c.reach.ensures.range c.requires.lawful c.along.invariant.beside met meeting)

pub returns-then-meet-clause-reads_most : goal.returns-then-meet-clause-reads_most
returns-then-meet-clause-reads_most g c = omega (arith, few_in_range c.run_laws.ensures c.reach.ensures.range c.requires.lawful c.along.invariant.beside)

pub returns-then-are_at_end-clause-met : goal.returns-then-are_at_end-clause-met
returns-then-are_at_end-clause-met g c = grind (arith, common_steps, at_bit)

pub returns-then-are_at_end-clause-reads_way : goal.returns-then-are_at_end-clause-reads_way
returns-then-are_at_end-clause-reads_way g c = λ met meeting.
    omega (arith, few_to_meeting c.run_laws.ensures c.reach.ensures.range c.requires.lawful c.along.invariant.beside met meeting)

pub returns-then-are_at_end-clause-reads_most : goal.returns-then-are_at_end-clause-reads_most
returns-then-are_at_end-clause-reads_most g c = omega (arith, few_in_range c.run_laws.ensures c.reach.ensures.range c.requires.lawful c.along.invariant.beside)

pub returns-in_err-hop_first-clause-reads_way : goal.returns-in_err-hop_first-clause-reads_way
returns-in_err-hop_first-clause-reads_way g c = λ met meeting.
    omega (arith, few_to_meeting c.run_laws.ensures c.reach.ensures.range c.requires.lawful (hopped g (goal.at.returns-in_err-hop_first-clause-reads_way g c).After-hop_first) met meeting)

pub returns-in_err-hop_first-clause-reads_most : goal.returns-in_err-hop_first-clause-reads_most
returns-in_err-hop_first-clause-reads_most g c =
    omega (arith, few_in_range c.run_laws.ensures c.reach.ensures.range c.requires.lawful (hopped g (goal.at.returns-in_err-hop_first-clause-reads_most g c).After-hop_first))
