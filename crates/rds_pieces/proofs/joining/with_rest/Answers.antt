use Rattle.rds_pieces.proofs.Names.{◌≡◌, ◌++◌, ◌∙◌, List, [], drop, refl, Signal, Item, ItemsOf, listed, RuleNumbers, end_of}
use Rattle.rds_pieces.proofs.JoinLemmas.{joined_fit, joined_kept}
use Rattle.rds_pieces.proofs.joining.with_rest.Goals as goal

-- the left run's items, and then the others
put_together : {b : Signal} {rules : RuleNumbers} {none left kept rest all : ItemsOf} {first next : List Item} → none ≡ listed b rules [] → left ≡ listed b rules first → rest ≡ listed b rules next
    → kept ≡ listed none.source none.rules (none.list ++ drop 0 left.list) → all ≡ listed kept.source kept.rules (kept.list ++ rest.list) → all ≡ listed b rules (first ++ next)
put_together none_is left_is rest_is kept_is all_is = all_is ∙ rw (kept_is, none_is, left_is, rest_is)

pub plus-totals-requires : goal.plus-totals-requires
plus-totals-requires c =
    let l = c.args.left.now in
    let range = c.range-from.ensures in
    joined_fit c.run_laws.ensures l.source l.rules range.rules l.from l.to c.args.to range.inside.0 c.requires.order c.requires.within range.few
    (end_of l) c.totals.result c.args.rest.totals c.totals.ensures c.requires.totals

pub new-requires : goal.new-requires
new-requires c =
    let l = c.args.left.now in
    let range = c.range-from.ensures in
    let none : c.none-items.result ≡ listed l.source l.rules [] = rw (← c.requires.source, ← c.requires.rules) c.none-items.ensures in
    rw (range.first, c.plus-totals.ensures.value)
    (joined_kept c.run_laws.ensures l.source l.rules range.rules l.from l.to c.args.to range.inside.0 c.requires.order c.requires.within range.few
    c.append.new.self c.totals.result c.args.rest.totals (end_of l) c.args.end_state refl
    (put_together none c.list.ensures c.requires.items c.in_ok-append_from.ensures.ok c.in_ok-append.ensures.ok) c.totals.ensures c.requires.totals c.requires.end)
