use Rattle.rds_abi.proofs.Shared.{◌≡◌, ◌-◌, ◌*◌, ◌/◌, ◌≤◌, ◌⊎◌, ℕ, List, ap, ap₂, arith, inl, inr, refl, ◌∙◌, cases_lt, false≢true, Signal, length_of, signal_at, found-of-part, length-at, gaps_of}
use Rattle.rds_abi.proofs.PartRuns.{slice-heard}
use Rattle.rds_abi.proofs.part.part_of.Goals as goal

pub unreachable-requires : goal.unreachable-requires
unreachable-requires c =
    let first : ℕ = c.saturating_sub-first.result / 8 in
    absurd (false≢true (c.in-Err.ensures.taken.1 (
      omega (arith, c.requires.within, c.requires.lawful.0),
      omega (arith, c.requires.order, c.requires.within, c.requires.lawful.1, c.saturating_sub-first.ensures, c.div_ceil.ensures, c.in_ok-copy.ensures.len),
      found-of-part c.args.bits (8 * first) (c.args.to - 8 * first) (c.args.to - 8 * first) (gaps_of c.args.gaps.now) c.in_ok-near.near.items c.requires.lawful.2 c.in_ok-near.ensures refl,
    )))

pub returns-clause-len : goal.returns-clause-len
returns-clause-len c =
    let first : ℕ = c.saturating_sub-first.result / 8 in
    ap (λ (b : Signal). length_of b) c.in-Ok.ensures.held ∙ length-at c.in_ok-near.near.items c.in_ok-copy.copy.items (c.args.to - 8 * first)

pub returns-clause-heard : goal.returns-clause-heard
returns-clause-heard c place later =
    let first : ℕ = c.saturating_sub-first.result / 8 in
    let len : ℕ = c.args.to - 8 * first in
    let is : c.in-Ok.recording ≡ signal_at c.in_ok-near.near.items c.in_ok-copy.copy.items len = c.in-Ok.ensures.held in
    let early : (8 * first ≡ 0) ⊎ (233 ≤ place) = (elim (cases_lt c.args.from 233) [
      | inl few ↦ inl (omega (arith, few, c.saturating_sub-first.ensures))
      | inr many ↦ inr (omega (arith, many, later, c.saturating_sub-first.ensures))
    ]) in
    slice-heard c.args.bytes.now c.args.bits (gaps_of c.args.gaps.now) first c.div_ceil.result len place c.in-Ok.recording c.requires.lawful.2
    (omega (arith, c.requires.order, c.saturating_sub-first.ensures, c.div_ceil.ensures))
    (omega (arith, c.requires.within, c.requires.lawful.1, c.div_ceil.ensures))
    (omega (arith, c.div_ceil.ensures, c.requires.order, c.saturating_sub-first.ensures))
    (omega (arith, c.requires.order, c.requires.within, c.saturating_sub-first.ensures))
    (is ∙ ap₂ (λ (gs : List (ℕ × ℕ)) (bytes : List ℕ). signal_at gs bytes len) c.in_ok-near.ensures c.in_ok-copy.ensures.items)
    early
