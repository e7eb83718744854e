use Rattle.rds_uses.proofs.Names.{Bool, ap₂, arith, cond, lt-ltb, min, ℕ, ◌-◌, ◌∙◌, ◌≡◌}
use Rattle.rds_uses.proofs.sync.lost_by_mask.Goals as goal

pub returns-clause-newest : goal.returns-clause-newest
returns-clause-newest c of_some is_good k some =
    let newest : k - 0 ≡ k = omega arith in
    c.masks_tell_blocks.ensures is_good c.args.bad c.args.of k 0
    ∙ ap₂ (λ (t : Bool) (j : ℕ). cond t (cond (is_good j) 0 1) 0) (lt-ltb 0 (min c.args.of k) (omega (arith, some, of_some))) newest
