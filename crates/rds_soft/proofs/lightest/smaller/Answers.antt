use Rattle.rds_soft.proofs.Names.{common_steps, false, cond, ltb, get_or, ap, ◌∙◌, arith, w8, zip2, sel_l, tops_compared, length-zip2, length-sel_l, get_or-sel_l, get_or-zip2}
use Rattle.rds_soft.proofs.LaneLemmas.{lesser_is}
use Rattle.rds_soft.proofs.lightest.smaller.Goals as goal

pub returns-clause-long : goal.returns-clause-long
returns-clause-long c = grind (arith, common_steps, length-zip2, ltb, tops_compared, length-sel_l)

pub returns-clause-each : goal.returns-clause-each
returns-clause-each c i lt =
    let a = c.args.a in
    let b = c.args.b in
    let long = length-zip2 ltb a b (omega (arith, c.requires.a, c.requires.b)) in
    let is = ap (λ ms. sel_l ms a b) (tops_compared w8 ltb a b) in
    ap (λ l. get_or l i 0) is
    ∙ get_or-sel_l (zip2 ltb a b) a b i 0 (omega (arith, c.requires.a, c.requires.b, long)) (omega (arith, c.requires.a)) (omega (arith, c.requires.b))
    ∙ ap (λ t. cond t (get_or a i 0) (get_or b i 0)) (get_or-zip2 ltb a b i 0 0 false (omega (arith, c.requires.a)) (omega (arith, c.requires.b)))
    ∙ lesser_is (get_or a i 0) (get_or b i 0)
