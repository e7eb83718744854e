use Rattle.rds_abi.proofs.{Shared.rules, Shared.tests, Shared.◌∙◌, Shared.IfOk-weaker, Shared.part_of_gap, Shared.gap_of, Shared.RdsGap, GapLists.parts-of-gaps}
use Rattle.std.proofs.lemmas.Iterator.{YieldsList-from_slice, items_from_collect, Consumers.YieldsList-from_filter_map}
use Rattle.rds_abi.proofs.part.gaps_within.Goals as goal

pub returns : goal.returns
returns c =
    IfOk-weaker c.collect.result _ _ (λ near is. is ∙ parts-of-gaps c.args.before c.args.len c.args.gaps.now)
    (items_from_collect _ c.collect.ensures.ran
    (YieldsList-from_filter_map _ (λ (gap : RdsGap). part_of_gap c.args.before c.args.len (gap_of gap)) (YieldsList-from_slice c.args.gaps.now cc) c.filter_map.ensures.closure (λ x r q k. search (rules, tests))))
