use Rattle.rds_abi.proofs.Shared.{◌++◌, ℕ, List, ap, drop, length, replicate, ◌∙◌, drop-replicate}
use Rattle.rds_abi.proofs.stream.tail_in_c.Goals as goal

pub returns-clause-laid : goal.returns-clause-laid
returns-clause-laid c =
    let n = length c.args.tail.now in
    ap (λ (bytes : List ℕ). bytes ++ drop n (replicate 32 0)) c.copy_from_slice.ensures.after
    ∙ ap (λ (zeros : List ℕ). c.args.tail.now ++ zeros) (drop-replicate n 32 0)
