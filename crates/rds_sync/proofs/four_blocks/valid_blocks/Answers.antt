use Rattle.rds_sync.proofs.Lemmas.{Either, Read, heard-blocks, refl, wanted_beside}
use Rattle.rds_sync.proofs.four_blocks.valid_blocks.Goals as goal

pub returns-clause-blocks : goal.returns-clause-blocks
returns-clause-blocks c b rules due is =
    let second = c.in_ok-second.second in
    let wanted = wanted_beside (Read second) in
    let limit = rules.burst in
    heard-blocks b rules due c.args.heard.now is wanted c.in_ok-first.first second c.in_ok-third.third c.in_ok-fourth.fourth
    (c.in_ok-first.ensures.reading Either limit) (c.in_ok-second.ensures.reading Either limit) refl (c.in_ok-third.ensures.reading wanted limit)
    (c.in_ok-fourth.ensures.reading Either limit)
