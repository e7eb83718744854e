use Rattle.rds_abi.proofs.Shared.{◌∙◌, ℕ, List, ap, arith, take_all, live_next}
use Rattle.rds_abi.proofs.soft.items_of.Goals as goal

pub returns-clause-next : goal.returns-clause-next
returns-clause-next c =
    c.in-Ok.ensures.next
    ∙ ap (λ (xs : List ℕ). live_next c.args.live.now xs)
    (take_all c.in-Ok.field-0 c.args.bytes.now (omega (arith, c.in-Ok.ensures.count, c.in_ok-items.ensures.capacity, c.requires.few)))
