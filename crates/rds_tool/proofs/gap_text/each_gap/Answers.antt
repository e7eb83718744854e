use Rattle.rds_tool.proofs.Names.{common_steps, arith, ◌+◌, ◌∙◌, ℕ, List, ap, drop, map, sym, each_gap}
use Rattle.rds_tool.proofs.GapTexts.{gaps_more, gaps_none, gaps_whole, with_rest}
use Rattle.rds_tool.proofs.gap_text.each_gap.Goals as goal

pub loop-pair-preserved : goal.loop-pair-preserved
loop-pair-preserved c =
    gaps_more c.args.pairs.now c.loop-pair.pair-index c.loop-pair.gaps.items c.loop-pair.invariant _ c.in-Some.gap c.loop-pair-test.true (sym c.gap_of.ensures ∙ c.in-Some.is)
    ∙ ap (λ (gaps : List (ℕ × ℕ)). with_rest gaps (each_gap (map (λ pair. pair.now) (drop (c.loop-pair.pair-index + 1) c.args.pairs.now)))) (sym c.in_ok-push.ensures.items)

pub returns : goal.returns
returns c = gaps_whole c.args.pairs.now c.loop-pair.pair-index c.loop-pair.gaps.items c.loop-pair.invariant c.loop-pair-test.false

pub returns-in_default : goal.returns-in_default
returns-in_default c = grind (arith, common_steps, gaps_none)
