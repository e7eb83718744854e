use Rattle.rds_tool.proofs.Names.{◌∙◌, ◌++◌, List, ap, flat_map, complete, Item, item_row, totals_text}
use Rattle.rds_tool.proofs.Followed.{rest_is}
use Rattle.rds_sync.specs.Advance.{group_item}
use Rattle.rds_tool.proofs.following.rows_of_rest.Goals as goal

pub returns-clause-rows : goal.returns-clause-rows
returns-clause-rows c = λ before h.
    rest_is (complete c.args.live.terms before) c.in_ok-items.items.items (group_item c.in_ok-items.end.group) _ c.in_ok-items.end.totals _
    (c.in_ok-items.ensures.items before h) (c.in_ok-items.ensures.totals before h)
    (c.in_ok-text.ensures.rows
    ∙ ap (λ (items : List Item). flat_map item_row items ++ (flat_map item_row (group_item c.in_ok-items.end.group) ++ totals_text c.in_ok-items.end.totals)) c.as_slice.ensures.value)
