use Rattle.rds_live.proofs.Names.{◌∙◌, arith, ap, sym, TapeState, group_item, items_of_end}
use Rattle.rds_live.proofs.ItemPlaces.{group-soon}
use Rattle.rds_live.proofs.part.moved_end.Goals as goal

pub moved_group-requires : goal.moved_group-requires
moved_group-requires c =
    let found = ap group_item (sym c.in-Some.is) ∙ c.finish.ensures.group ∙ ap (λ (t : TapeState). items_of_end t.signal c.args.rules.now c.args.state) c.new.ensures in
    omega (arith, group-soon c.args.part.now c.args.rules.now c.args.state c.in-Some.group c.requires.lawful (omega (arith, c.len.ensures.limit, c.len.ensures.value)) found, c.requires.limit)
