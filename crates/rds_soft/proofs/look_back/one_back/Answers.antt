use Rattle.rds_soft.proofs.Names.{◌+◌, ◌-◌, ◌^◌, ◌<◌, ap, arith, bit_xor, xor_lt, the_effect}
use Rattle.rds_soft.proofs.WalkLemmas.{walk_turned, walk_kept, spent_small, flips_small, power_is}
use Rattle.rds_soft.proofs.look_back.one_back.Goals as goal

pub least_of-requires-clause-sum : goal.least_of-requires-clause-sum
least_of-requires-clause-sum c = xor_lt 10 c.args.walk.left c.effect.result c.requires.walk.left_small c.effect.ensures.small

pub overflow_add-result : goal.overflow_add-result
overflow_add-result c =
    let next = walk_turned the_effect _ _ _ _ _ _ _ _ _ _ _ _ c.requires.walk (omega arith) (ap (bit_xor c.args.walk.left) c.effect.ensures.value)
    (xor_lt 10 c.args.walk.left c.effect.result c.requires.walk.left_small c.effect.ensures.small)
    c.least_of-kept_weight.ensures.value c.least_of.ensures.value c.from-confidence.ensures c.if-turned_weight-kept_weight.true in
    let small : c.args.walk.flips + 2 ^ c.args.n < 2 ^ 27 = flips_small _ _ _ _ _ _ _ _ next in
    omega (arith, small, power_is c.args.walk.flips c.args.n small)

pub overflow_add-result-then-turned_weight-kept_weight : goal.overflow_add-result-then-turned_weight-kept_weight
overflow_add-result-then-turned_weight-kept_weight c = omega (arith, spent_small _ _ _ _ _ _ _ _ c.requires.walk, c.type_inv.confidences (26 - c.args.n), c.from-confidence.ensures)

pub overflow_add-walk : goal.overflow_add-walk
overflow_add-walk c = omega (arith, spent_small _ _ _ _ _ _ _ _ c.requires.walk, c.least_of-kept_weight.ensures.small)

pub overflow_add-walk-else-turned_weight-kept_weight : goal.overflow_add-walk-else-turned_weight-kept_weight
overflow_add-walk-else-turned_weight-kept_weight c =
    omega (arith, spent_small _ _ _ _ _ _ _ _ c.requires.walk, c.least_of.ensures.small, c.type_inv.confidences (26 - c.args.n), c.from-confidence.ensures)

pub returns-then-turned_weight-kept_weight : goal.returns-then-turned_weight-kept_weight
returns-then-turned_weight-kept_weight c =
    let next = walk_turned the_effect _ _ _ _ _ _ _ _ _ _ _ _ c.requires.walk (omega arith) (ap (bit_xor c.args.walk.left) c.effect.ensures.value)
    (xor_lt 10 c.args.walk.left c.effect.result c.requires.walk.left_small c.effect.ensures.small)
    c.least_of-kept_weight.ensures.value c.least_of.ensures.value c.from-confidence.ensures c.if-turned_weight-kept_weight.true in
    let small : c.args.walk.flips + 2 ^ c.args.n < 2 ^ 27 = flips_small _ _ _ _ _ _ _ _ next in
    rw (power_is c.args.walk.flips c.args.n small, c.min.ensures) next

pub returns-else-turned_weight-kept_weight : goal.returns-else-turned_weight-kept_weight
returns-else-turned_weight-kept_weight c =
    rw c.min-else-turned_weight-kept_weight.ensures (walk_kept the_effect _ _ _ _ _ _ _ _ _ _ _ _ c.requires.walk (omega arith)
    (ap (bit_xor c.args.walk.left) c.effect.ensures.value) c.least_of-kept_weight.ensures.value c.least_of.ensures.value c.from-confidence.ensures c.if-turned_weight-kept_weight.false)
