use Rattle.rds_abi.proofs.Shared.{rules, ◌+◌, ◌*◌, ◌^◌, ◌∙◌, ℕ, ap, arith, length, refl, false≢true, Signal, length_of, found-of-part, length-at, gaps_of}
use Rattle.rds_abi.proofs.soft.recording_near.Goals as goal

pub unreachable-requires : goal.unreachable-requires
unreachable-requires c =
    let before : ℕ = c.known_from-before.result in
    let len : ℕ = 8 * (c.kept_of-kept.result + length c.args.bytes.now) in
    absurd (false≢true (c.in-Err.ensures.taken.1 (
      omega (arith, c.requires.fits, c.kept_of-kept.ensures),
      search rules,
      found-of-part (2 ^ 36) before len len (gaps_of c.args.gaps.now) c.in_ok-found.found.items c.requires.gaps
          (c.in_ok-found.ensures ∙ c.near.ensures.same len (omega arith)) refl,
    )))

pub returns-clause-len : goal.returns-clause-len
returns-clause-len c =
    ap (λ (b : Signal). length_of b) c.in-Ok.ensures.held
    ∙ length-at c.in_ok-found.found.items c.extend_from_slice-2.new.self.items (8 * (c.kept_of-kept.result + length c.args.bytes.now))
    ∙ ap (λ (k : ℕ). 8 * (k + length c.args.bytes.now)) c.kept_of-kept.ensures
