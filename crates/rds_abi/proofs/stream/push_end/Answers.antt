use Rattle.rds_abi.proofs.Shared.{◌++◌, List, ap, ◌∙◌, group_item, Item, Some}
use Rattle.rds_abi.proofs.stream.push_end.Goals as goal

pub returns-in_ok-push : goal.returns-in_ok-push
returns-in_ok-push c =
    rw c.in-Some.is (c.in_ok-push.ensures.items ∙ ap (λ (xs : List Item). xs ++ group_item (Some c.in-Some.group)) c.in_ok-extend_from_slice.ensures.items)
