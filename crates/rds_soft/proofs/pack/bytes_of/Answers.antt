use Rattle.rds_soft.proofs.Names.{◌≡◌, ◌+◌, ◌<◌, ◌∙◌, ℕ, List, ap, arith, length, length-take, slice_index, get_or-take}
use Rattle.rds_soft.proofs.PackLemmas.{same_bit}
use Rattle.rds_soft.proofs.pack.bytes_of.Goals as goal

pub returns-in-Some : goal.returns-in-Some
returns-in-Some c = λ i low inside.
    let first = c.in-Some.ensures.cases in
    let symbols : List ℕ = c.args.symbols.now in
    let long : length c.in-Some.chunk.now ≡ 65 = omega (arith, ap length first.same, length-take 65 symbols, first.enough) in
    let at : (k : ℕ) → k < 65 → slice_index c.in-Some.chunk.now k ≡ slice_index symbols k =
    λ k few. ap (λ (xs : List ℕ). slice_index xs k) first.same ∙ get_or-take 65 symbols k 0 few in
    c.bytes_between.ensures i low
    ∙ same_bit c.in-Some.chunk.now symbols i i (omega (arith, long, low)) inside (at i (omega (arith, low))) (at (i + 1) (omega (arith, low)))
