use Rattle.rds_sync.proofs.Lemmas.{◌+◌, sym, ◌∙◌, outcomes-are, pushed-is, whole-is}
use Rattle.rds_sync.proofs.four_blocks.push_whole.Goals as goal

pub returns-in_ok-after-in-Some-clause-pushed : goal.returns-in_ok-after-in-Some-clause-pushed
returns-in_ok-after-in-Some-clause-pushed c b due late place heard =
    let rules = c.args.rules.now in
    let are = c.in-Some.ensures.blocks b rules due heard in
    let outcomes = sym c.in-Some.ensures.valid ∙ outcomes-are b rules 1 4 (due + 78) c.in-Some.blocks are in
    let whole = whole-is b rules due c.args.loss c.args.place c.in-Some.blocks _ c.args.bad c.in_ok-after-in-Some.after c.of_blocks.result late place are outcomes c.requires.loss
    c.of_blocks.ensures c.in_ok-after-in-Some.ensures in
    pushed-is b rules due c.args.bad c.in_ok-after-in-Some.after c.of_blocks.result c.args.part.now.items c.push_one.new.part.items whole c.push_one.ensures.items
