use Rattle.rds_soft.proofs.Names.{◌∙◌, List, Some, ap, arith, ℤ, take, take_rest}
use Rattle.rds_soft.proofs.AgainLemmas.{chunk_there}
use Rattle.rds_soft.proofs.again.chunk_at.Goals as goal

pub returns-in-Some : goal.returns-in-Some
returns-in-Some c =
    let rest = c.in_ok-get.ensures.lookup.0 in
    let first = c.in-Some.ensures.cases in
    ap (λ (xs : List ℤ). Some xs) c.signed.ensures
    ∙ chunk_there c.args.symbols.now c.in-Some.chunk.now c.args.first (omega (arith, rest.3, first.enough))
    (first.same ∙ ap (take 27) (rest.2 ∙ take_rest c.args.symbols.now c.args.first))
