use Rattle.std.proofs.Common.{◌≡◌, ◌+◌, ◌++◌, ◌*◌, ◌^◌, ◌∙◌, ℕ, List, ap, ap₂, arith, length, length-append, subst, sym}
use Rattle.rds_sync.specs.{Counting.IsAtMost, Counting.plus, Totals.totals_of, declared.item.Item.Item}
use Rattle.rds_tool.proofs.one_pass.OnePass.add_rows.Goals as goal

pub returns-clause-counted : goal.returns-clause-counted
returns-clause-counted c = λ before h.
    let items : List Item = c.args.self.now.items.items in
    let bound : 2 ^ 10 * length before + 2 ^ 10 * length items ≡ 2 ^ 10 * length (before ++ items) = omega (arith, length-append before items) in
    let of = c.of.ensures.value ∙ ap totals_of c.as_slice-2.ensures.value in
    let small = subst (λ (xs : List Item). IsAtMost (2 ^ 10 * length xs) c.of.result) c.as_slice-2.ensures.value c.of.ensures.small in
    record {
      are = c.plus-self.ensures.value ∙ ap₂ plus h.are of ∙ sym (c.totals_join.ensures before items).joined;
      small = subst (λ (n : ℕ). IsAtMost n c.plus-self.result) bound (c.plus-self.ensures.small _ _ h.small small);
    }
