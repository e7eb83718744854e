use Rattle.rds_soft.proofs.Names.{◌+◌, ◌∙◌, ap, arith, group-soon, refl, rules, sym, item_again, length_of, moved_back, lawful-back, back-on}
use Rattle.rds_sync.specs.Advance.{group_item}
use Rattle.rds_soft.proofs.near.end_near.Goals as goal

pub item_in-requires-clause-place : goal.item_in-requires-clause-place
item_in-requires-clause-place c =
    let part = c.args.near.now.recording in
    let d = c.args.near.now.before in
    let local = moved_back d c.args.state in
    let lawful = lawful-back c.args.rules.now d (length_of part) (length_of part + d) local c.args.state
    (back-on c.args.rules.now d (length_of part + d) c.args.state c.requires.lawful (omega arith)) c.requires.lawful refl c.requires.early in
    omega (arith, group-soon part c.args.rules.now local c.in-Some.group lawful (omega (arith, c.len.ensures.limit, c.len.ensures.value)) (ap group_item (sym c.in-Some.is) ∙ c.finish_part.ensures))

pub unreachable-requires : goal.unreachable-requires
unfolding item_again
unreachable-requires c = search rules
