use Rattle.rds_tool.proofs.Names.{◌≡◌, ◌++◌, List, subst, sym, flat_map, HasHeard, complete, Item, item_row}
use Rattle.rds_tool.proofs.Followed.{has_rows}
use Rattle.rds_live.specs.Listing.{ListerOf}
use Rattle.rds_tool.proofs.following.list_chunk.Goals as goal

pub returns-clause-heard : goal.returns-clause-heard
returns-clause-heard g c before h = c.in_ok-list.ensures.heard before (subst (λ (l : ListerOf). HasHeard l.live before) (sym c.clear_rows.ensures) h)

pub returns-clause-rows : goal.returns-clause-rows
returns-clause-rows g c before h =
    let bytes = c.args.bytes.now in
    let text = c.in_ok-list.field-0.rows in
    let (items, more, are) =
    subst (λ (l : ListerOf). (items : List Item) × (complete l.live.terms (before ++ bytes) ≡ complete l.live.terms before ++ items) × (text ≡ l.rows ++ flat_map item_row items))
    c.clear_rows.ensures (c.in_ok-list.ensures.rows before (subst (λ (l : ListerOf). HasHeard l.live before) (sym c.clear_rows.ensures) h)) in
    has_rows c.args.lister.live.terms before bytes text items more are
