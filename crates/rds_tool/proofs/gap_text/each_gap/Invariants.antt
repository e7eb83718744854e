use Rattle.rds_tool.proofs.Names.{◌≡◌, drop, map, each_gap}
use Rattle.rds_tool.proofs.GapTexts.{with_rest}
use Rattle.rds_tool.proofs.gap_text.each_gap.Given as goal

abbrev pub invariant-loop-pair : goal.invariant-loop-pair
invariant-loop-pair l =
    each_gap (map (λ pair. pair.now) l.pairs) ≡ with_rest l.gaps.items (each_gap (map (λ pair. pair.now) (drop l.pair-index l.pairs)))
