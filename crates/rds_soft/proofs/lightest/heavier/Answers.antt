use Rattle.rds_soft.proofs.Names.{common_steps, ℕ, ◌+◌, ◌-◌, ◌%◌, get_or, replicate, ap, ◌∙◌, arith, min, length-zip2, get_or-zip2, get_or-replicate}
use Rattle.rds_soft.proofs.LaneLemmas.{capped_sum}
use Rattle.rds_soft.proofs.lightest.heavier.Goals as goal

abbrev wrapped : ℕ → ℕ → ℕ
wrapped a b = (a + b) % 256

pub returns-clause-long : goal.returns-clause-long
returns-clause-long c = grind (arith, common_steps, length-zip2)

pub returns-clause-each : goal.returns-clause-each
returns-clause-each c j less =
    let a : ℕ = get_or c.smaller.result j 0 in
    get_or-zip2 wrapped c.smaller.result (replicate 16 c.args.confidence) j 0 0 0 (omega (arith, less, c.smaller.ensures.long)) less
    ∙ ap (wrapped a) (get_or-replicate 16 j c.args.confidence 0 less)
    ∙ capped_sum a (get_or c.args.weights j 0) c.args.confidence (omega (arith, c.ranges.confidence))
    (c.smaller.ensures.each j less ∙ ap (min (get_or c.args.weights j 0)) (get_or-replicate 16 j (255 - c.args.confidence) 0 less))
