use Rattle.rds_soft.proofs.Names.{common_steps, arith, length, ◌≡◌, ◌++◌, ◌+◌, ◌^◌, ◌∷◌, ◌∙◌, List, [], ap, ap₂, SoftItem}
use Rattle.rds_soft.specs.{Inside.Lists.items_at}
use Rattle.rds_soft.proofs.ListLemmas.{items_pushed, items_stay}
use Rattle.rds_soft.proofs.soft_list.SoftList.push.Goals as goal

pub returns-clause-appended : goal.returns-clause-appended
returns-clause-appended c =
    let entries = c.self.inside.entries.items in
    let at : 2 ^ 63 + c.len.result ≡ 2 ^ 63 + length c.self.inside.others.items = grind (arith, common_steps) in
    ap₂ items_at c.in_ok-push.ensures.items c.in_ok-push-2.ensures.items
    ∙ items_pushed c.self.inside.others.items c.args.item entries _ at c.self.invariant
    ∙ ap (λ (xs : List SoftItem). xs ++ c.args.item ∷ []) c.self.view_is

pub returns-in_err-push-2-clause-refused : goal.returns-in_err-push-2-clause-refused
returns-in_err-push-2-clause-refused = grind (arith, items_stay)
