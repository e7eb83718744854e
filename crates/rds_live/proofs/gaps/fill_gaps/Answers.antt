use Rattle.rds_live.proofs.Names.{common_steps, ◌+◌, ◌^◌, ◌∷◌, ◌++◌, [], drop, length, ap, sym, ◌∙◌, arith, length-append, gaps_within}
use Rattle.rds_live.proofs.GapParts.{few-of-part, one-found}
use Rattle.rds_live.proofs.gaps.fill_gaps.Goals as goal

pub push_reserved-requires : goal.push_reserved-requires
push_reserved-requires c =
    let loop = c.loop-gap in
    let gaps = c.args.gaps.now in
    let near = c.near-near.result.now in
    let all = gaps_within gaps c.args.before c.args.len in
    let rest = gaps_within (drop (loop.gap-index + 1) near) c.args.before c.args.len in
    let is = one-found c.args.before c.args.len near loop.found.items all loop.gap-index (0, 0) c.in-Some.part (omega (arith, c.loop-gap-test.true, loop.invariant.end)) loop.invariant.so_far
    (sym (sym c.part_of_gap.ensures ∙ c.in-Some.is)) in
    omega (
      arith,
      ap length is,
      length-append (loop.found.items ++ c.in-Some.part ∷ []) rest,
      length-append loop.found.items (c.in-Some.part ∷ []),
      few-of-part (2 ^ 36) c.args.before c.args.len gaps c.requires.are,
      c.requires.room,
      loop.invariant.room,
      c.clear.ensures.capacity,
      loop.found.ok.0,
    )

pub loop-gap-preserved : goal.loop-gap-preserved
loop-gap-preserved = grind (arith, common_steps)

pub returns-clause-gaps : goal.returns-clause-gaps
returns-clause-gaps = grind (arith, common_steps)
