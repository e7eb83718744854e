use Rattle.rds_soft.proofs.Names.{common_steps, ◌^◌, ℕ, arith, refl, false≢true, found-of-part}
use Rattle.rds_soft.proofs.PartLemmas.{bits-are}
use Rattle.rds_soft.proofs.near.bits_near.Goals as goal

pub unreachable-requires : goal.unreachable-requires
unreachable-requires c =
    let n : ℕ = c.saturating_sub-len.result in
    absurd (false≢true (c.in-Err.ensures.taken.1 (
      omega (arith, c.requires.limit, c.saturating_sub-len.ensures),
      omega (arith, c.in_ok-packed.ensures.enough, c.saturating_sub-len.ensures, c.in_ok-packed.packed.ok),
      found-of-part (2 ^ 36) c.args.before n n c.args.gaps.now c.in_ok-found.found.items c.requires.gaps c.in_ok-found.ensures refl,
    )))

pub returns : goal.returns
returns c = grind (arith, common_steps, bits-are)
