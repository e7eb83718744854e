use Rattle.rds_sync.proofs.Lemmas.{◌≡◌, ◌-◌, ℕ, ap, ◌∙◌, arith, run, TallyOf, gone_on, tally_at, totals_of, gone-again}
use Rattle.rds_sync.proofs.report.run_report.Goals as goal

pub loop-reader-preserved : goal.loop-reader-preserved
loop-reader-preserved c =
    let come = c.loop-reader.invariant in
    let t = tally_at c.args.rec.now c.args.rules.now c.args.from c.args.state in
    let forward = c.go_on.ensures.forward in
    record {
      same = c.go_on.ensures.same ∙ come.same;
      from_on = omega (arith, come.from_on, forward.0);
      limit = forward.1;
      gone = c.go_on.ensures.state ∙ ap (λ (k : TallyOf). gone_on k c.go_on.new.self.place) come.gone
          ∙ gone-again t c.loop-reader.tally.place c.go_on.new.self.place come.from_on (omega (arith, forward.0));
    }

pub returns-clause-totals : goal.returns-clause-totals
returns-clause-totals c =
    let come = c.loop-reader.invariant in
    let there : c.loop-reader.tally.place ≡ c.args.to = omega (arith, come.limit) in
    c.in_ok-report.ensures.totals ∙ ap (λ (t : TallyOf). totals_of t.list) come.gone
    ∙ ap (λ (p : ℕ). totals_of (run c.args.rec.now c.args.rules.now c.args.state c.args.from (p - c.args.from)).1) there
