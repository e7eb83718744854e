use Rattle.rds_pieces.proofs.Names.{nil_from_length, common_steps, ◌≡◌, ◌≢◌, List, ◌++◌, ◌-◌, sym, ap, ap₂, ◌∙◌, subst, arith, Signal, Searching, Item, Totals, plus, ItemsOf, listed, totals_of, run, IsMeeting}
use Rattle.rds_pieces.proofs.StitchLemmas.{follow_inside, source_is, rules_are, lawful_here, fits_next, stitched_on, stitched_past, seam_few, seam_within, read_at_end, sum_at_end, whole_at_end, small_at_end, lawful_at_end}
use Rattle.rds_pieces.proofs.stitching.carry_over_all.Goals as goal

pub loop-run-init : goal.loop-run-init
loop-run-init g c = grind (arith, common_steps, nil_from_length)

pub carry_over-requires-clause-lawful : goal.carry_over-requires-clause-lawful
carry_over-requires-clause-lawful g c = grind (arith, common_steps, lawful_here)

pub carry_over-requires-clause-source : goal.carry_over-requires-clause-source
carry_over-requires-clause-source g c = grind (arith, common_steps, source_is)

pub carry_over-requires-clause-rules : goal.carry_over-requires-clause-rules
carry_over-requires-clause-rules g c = grind (arith, common_steps, rules_are)

pub carry_over-requires-clause-room : goal.carry_over-requires-clause-room
carry_over-requires-clause-room g c = grind (arith, common_steps, follow_inside)

pub carry_over-requires-clause-fit : goal.carry_over-requires-clause-fit
carry_over-requires-clause-fit g c =
    let r = c.run-item.result in
    fits_next c.loop-run.invariant.stitched r c.loop-run-test.true c.run-item.is c.run_laws.ensures c.reach-reach.ensures.range (omega (arith, c.len-len.ensures.limit, c.len-len.ensures.value)) c.loop-run.report.totals
    (totals_of (run (g.T.Tape.signal c.loop-run.tape) c.args.rules.now c.loop-run.state r.from (r.to - r.from)).1) c.loop-run.invariant.counted
    (ap (λ (x : Signal). totals_of (run x c.args.rules.now c.loop-run.state r.from (r.to - r.from)).1) c.loop-run.invariant.same)

pub loop-run-preserved : goal.loop-run-preserved
loop-run-preserved g c =
    let r = c.run-item.result in
    let rules = c.args.rules.now in
    let here = c.loop-run.state in
    let same = c.loop-run.invariant.same in
    let first = c.loop-run.report.items.list in
    let step = c.in_ok-state.ensures in
    let given = (run (g.T.Tape.signal c.loop-run.tape) rules here r.from (r.to - r.from)).1 in
    let more : c.carry_over.new.report.items.list ≡ first ++ given = ap (λ (x : ItemsOf). x.list) step.items in
    let meeting = subst (λ (x : Signal). IsMeeting x rules here Searching r.from r.to step.reads.0) same step.reads.1 in
    let some : r.from ≢ r.to = λ same. omega (arith, same, c.if-from-to.false, c.from.ensures.value, c.to.ensures) in
    record {
      stitched = stitched_on c.loop-run.invariant.stitched c.run-item.result c.loop-run-test.true c.run-item.is c.run_laws.ensures c.reach-reach.ensures.range
          c.in_ok-state.state c.carry_over.new.report.items.list (g.T.Tape.reads_made c.carry_over.new.tape) step.reads.0
          (step.end ∙ ap (λ (x : Signal). (run x rules here r.from (r.to - r.from)).0) same)
          (more ∙ ap (λ (x : Signal). first ++ (run x rules here r.from (r.to - r.from)).1) same)
          meeting
          step.reads.2
          (seam_few c.loop-run.invariant.stitched c.run-item.result c.loop-run-test.true c.run-item.is c.reach-reach.ensures.range some
          (g.T.Tape.reads_made c.carry_over.new.tape) step.reads.0 meeting step.reads.2)
          (λ met first. c.carry_over.ensures.reads_way met (subst (λ (x : Signal). IsMeeting x rules here Searching r.from r.to met) (sym same) first));
      counted = step.totals
          ∙ ap (λ (t : Totals). plus t (totals_of given)) c.loop-run.invariant.counted
          ∙ sym (c.run_laws.ensures.totals first given).joined ∙ ap (λ (is : List Item). totals_of is) (sym more);
      named = step.items ∙ ap₂ (λ (x : Signal) (is : List Item). listed x rules is) same (sym more);
      same = c.carry_over.ensures.same ∙ same;
    }

pub loop-run-preserved-then-from-to : goal.loop-run-preserved-then-from-to
loop-run-preserved-then-from-to g c = grind (arith, common_steps, stitched_past)

pub returns-clause-reads : goal.returns-clause-reads
returns-clause-reads g c = let done = c.loop-run.invariant.stitched in (done.sum, sum_at_end done c.loop-run-test.false, done.reads_most)

pub returns-clause-whole : goal.returns-clause-whole
returns-clause-whole g c =
    whole_at_end c.loop-run.invariant.stitched c.loop-run-test.false c.run_laws.ensures
    (let r = c.reach-reach.ensures.range.loss.0 in r)

pub returns-clause-small : goal.returns-clause-small
returns-clause-small g c =
    small_at_end c.loop-run.invariant.stitched c.loop-run-test.false c.run_laws.ensures c.reach-reach.ensures.range (omega (arith, c.len-len.ensures.limit, c.len-len.ensures.value)) c.loop-run.report.totals
    c.loop-run.invariant.counted

pub returns-clause-lawful : goal.returns-clause-lawful
returns-clause-lawful g c = grind (arith, common_steps, lawful_at_end)

pub returns-clause-room : goal.returns-clause-room
returns-clause-room g c = grind (arith, common_steps, follow_inside)

pub returns-in_err-state-clause-reads_way : goal.returns-in_err-state-clause-reads_way
returns-in_err-state-clause-reads_way g c =
    let r = c.run-item.result in
    seam_within c.loop-run.invariant.stitched c.run-item.result c.loop-run-test.true c.run-item.is (g.T.Tape.reads_made c.carry_over.new.tape)
    (λ met first. c.carry_over.ensures.reads_way met (subst (λ (x : Signal). IsMeeting x c.args.rules.now c.loop-run.state Searching r.from r.to met) (sym c.loop-run.invariant.same) first))

pub returns-clause-reads_way : goal.returns-clause-reads_way
returns-clause-reads_way g c = grind (arith, common_steps, read_at_end)
