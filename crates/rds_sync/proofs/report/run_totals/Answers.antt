use Rattle.rds_sync.proofs.Lemmas.{◌≡◌, ◌+◌, ◌-◌, ◌*◌, ◌^◌, ℕ, ap, refl, subst, sym, ◌≤◌, ◌∙◌, arith, Signal, length_of, plus, CountOf, run, totals_of, Totals, run_items_few, tally-gone, IsAtMost-more}
use Rattle.rds_sync.proofs.report.run_totals.Goals as goal

pub stretches-preserved : goal.stretches-preserved
stretches-preserved c =
    let now = c.stretches in
    let inv = now.invariant in
    record {
      same = c.count_stretch.ensures.same ∙ inv.same;
      limit = c.count_stretch.ensures.reached.limit;
      tally = tally-gone inv.tally refl (sym inv.same) refl c.count_stretch.ensures.reached (subst (λ (b : Signal). c.args.to ≤ length_of b) (sym inv.same) c.requires.within) (omega (arith, c.if-prove.false, c.len.ensures.limit))
          (record { totals = c.settle.new.totals; items = c.settle.new.added }) c.settle.new.counts c.settle.ensures.same c.settle.ensures.few c.settle.ensures.small;
    }

pub returns-clause-totals : goal.returns-clause-totals
returns-clause-totals c =
    let inv = c.stretches.invariant in
    let there : c.stretches.place ≡ c.args.to = omega (arith, inv.limit, c.stretches-test.false) in
    c.plus.ensures.value ∙ ap (λ (t : Totals). plus c.stretches.totals t) c.totals.ensures.value ∙ ap (λ (k : CountOf). k.totals) inv.tally.count
    ∙ ap (λ (p : ℕ). totals_of (run c.args.rec.now c.args.rules.now c.args.state c.args.from (p - c.args.from)).1) there

pub returns-clause-small : goal.returns-clause-small
returns-clause-small c =
    let inv = c.stretches.invariant in
    let few = run_items_few c.args.rec.now c.args.rules.now c.args.state c.args.from (c.stretches.place - c.args.from) in
    IsAtMost-more (2 ^ 10 * c.stretches.added + 2 ^ 10 * c.stretches.counts.items) (2 ^ 11 * (c.args.to - c.args.from)) c.plus.result
    (omega (arith, ap (λ (k : CountOf). k.items) inv.tally.count, few, inv.limit))
    (c.plus.ensures.small (2 ^ 10 * c.stretches.added) (2 ^ 10 * c.stretches.counts.items) inv.tally.small c.totals.ensures.small)
