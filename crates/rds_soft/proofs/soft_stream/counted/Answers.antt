use Rattle.rds_soft.proofs.Names.{◌++◌, ◌+◌, ◌-◌, ◌*◌, ◌^◌, ◌<◌, ◌∷◌, ◌∙◌, ℕ, List, [], ap, ap₂, arith, length, subst, sym, take_all, AreAtMost, plus, soft_totals_of, SoftItem, InSoft}
use Rattle.rds_soft.specs.{Inside.Totals.clean, SoftLists.item_of, SoftLists.valid_group, declared.soft_totals.SoftTotals.SoftTotals}
use Rattle.rds_soft.proofs.TotalsLemmas.{next_item, one_clean, plus-turned, soft_totals_of_append}
use Rattle.rds_soft.proofs.soft_stream.counted.Goals as goal
use Rattle.rds_soft.proofs.soft_stream.counted.Goals.{in-Valid, in-Other}

pub plus-others-requires : goal.plus-others-requires
plus-others-requires c =
    let few = c.requires in (
      few.0 + 2 ^ 10 * (c.loop-i.i - c.loop-i.valid),
      2 ^ 10,
      omega (arith, few.2, c.loop-i-test.true, c.len-i-end.ensures),
      c.loop-i.invariant.small few.0 few.1,
      c.of_item.ensures.small,
    )

pub loop-i-init : goal.loop-i-init
loop-i-init c = record {
  few = omega arith;
  value = λ before is. ap (λ (t : SoftTotals). plus t (clean 0)) is ∙ sym (soft_totals_of_append before []);
  small = λ most few. subst (λ (n : ℕ). AreAtMost n c.args.totals) (omega arith) few;
}

pub loop-i-preserved : goal.loop-i-preserved
loop-i-preserved c =
    let inv = c.loop-i.invariant in
    let i : ℕ = c.loop-i.i in
    let items : List SoftItem = c.args.items.now in
    let others : SoftTotals = c.loop-i.others in
    let valid : ℕ = c.loop-i.valid in
    let inside : i < length items = omega (arith, c.loop-i-test.true, c.len-i-end.ensures) in
    elim c.match-get.branch [
      | in-Valid w ↦
          let group = w.in-Valid.field-0 in
          let item : SoftItem = InSoft (valid_group group) in
          record {
            few = omega (arith, w.valid-is, inv.few);
            value = λ before is.
                ap₂ (λ (t : SoftTotals) (n : ℕ). plus t (clean n)) w.others-is w.valid-is
                ∙ sym (one_clean others valid group)
                ∙ ap (λ (t : SoftTotals). plus t (soft_totals_of (item ∷ []))) (inv.value before is)
                ∙ next_item before items i item inside (sym (ap item_of w.in-Valid.is) ∙ c.get.ensures.value item);
            small = λ most few.
                subst (λ (t : SoftTotals). AreAtMost (most + 2 ^ 10 * (i + 1 - c.match-get.valid)) t) (sym w.others-is)
                (subst (λ (n : ℕ). AreAtMost n others) (omega (arith, w.valid-is, inv.few)) (inv.small most few));
          }
      | in-Other w ↦
          let item : SoftItem = w.in-Other.item in
          let one : SoftTotals = soft_totals_of (item ∷ []) in
          record {
            few = omega (arith, w.valid-is, inv.few);
            value = λ before is.
                ap₂ (λ (t : SoftTotals) (n : ℕ). plus t (clean n)) w.others-is w.valid-is
                ∙ ap (λ (t : SoftTotals). plus t (clean valid)) (w.plus-others.ensures.value ∙ ap (plus others) w.of_item.ensures.value)
                ∙ plus-turned others one (clean valid)
                ∙ ap (λ (t : SoftTotals). plus t one) (inv.value before is)
                ∙ next_item before items i item inside (sym (ap item_of w.in-Other.is) ∙ c.get.ensures.value item);
            small = λ most few.
                subst (λ (t : SoftTotals). AreAtMost (most + 2 ^ 10 * (i + 1 - c.match-get.valid)) t) (sym w.others-is)
                (subst (λ (n : ℕ). AreAtMost n w.plus-others.result) (omega (arith, w.valid-is, inv.few))
                (w.plus-others.ensures.small (most + 2 ^ 10 * (i - valid)) (2 ^ 10) (inv.small most few) w.of_item.ensures.small));
          }
    ]

pub plus-requires : goal.plus-requires
plus-requires c =
    let few = c.requires in (
      few.0 + 2 ^ 10 * (c.loop-i.i - c.loop-i.valid),
      2 ^ 10 * c.loop-i.valid,
      omega (arith, few.2, c.loop-i-test.false, c.loop-i.auto.i-end, c.loop-i.invariant.few, c.len-i-end.ensures),
      c.loop-i.invariant.small few.0 few.1,
      c.of_clean.ensures.small,
    )

pub returns-clause-value : goal.returns-clause-value
returns-clause-value c before is =
    let items : List SoftItem = c.args.items.now in
    c.plus.ensures.value ∙ ap (plus c.loop-i.others) c.of_clean.ensures.value
    ∙ c.loop-i.invariant.value before is
    ∙ ap (λ (xs : List SoftItem). soft_totals_of (before ++ xs)) (take_all c.loop-i.i items (omega (arith, c.loop-i-test.false, c.len-i-end.ensures)))

pub returns-clause-small : goal.returns-clause-small
returns-clause-small c most few =
    let i : ℕ = c.loop-i.i in
    let valid : ℕ = c.loop-i.valid in
    subst (λ (n : ℕ). AreAtMost n c.plus.result)
    (omega (arith, c.loop-i-test.false, c.loop-i.auto.i-end, c.loop-i.invariant.few, c.len-i-end.ensures))
    (c.plus.ensures.small (most + 2 ^ 10 * (i - valid)) (2 ^ 10 * valid) (c.loop-i.invariant.small most few) c.of_clean.ensures.small)
