use Rattle.rds_abi.proofs.Shared.{◌*◌, ◌≤◌, ap, ap₂, arith, length, refl, take, List, ℕ, ◌∙◌, bits_of, length_of, packed_bit, length-map-range_with_len}
use Rattle.rds_abi.proofs.PartRuns.{bits-of-first}
use Rattle.rds_abi.proofs.asked.recording_of.Goals as goal

pub returns-clause-held : goal.returns-clause-held
returns-clause-held c =
    let bits = c.args.bits in
    let first : List ℕ = take c.div_ceil.result c.args.bytes.now in
    let copied = c.in_ok-copy.ensures.items in
    let held : bits ≤ 8 * length first = omega (arith, (c.in-Ok.ensures.taken.0 refl).1, c.in_ok-copy.copy.ok.0, ap (λ (bytes : List ℕ). length bytes) copied) in
    c.in-Ok.ensures.held
    ∙ ap₂ (λ (all : List ℕ) (gaps : List (ℕ × ℕ)). record { bits = all; gaps = gaps })
    (ap (λ (bytes : List ℕ). bits_of bytes bits) copied ∙ bits-of-first c.args.bytes.now c.div_ceil.result bits held) c.in_ok-places.ensures

pub returns-clause-len : goal.returns-clause-len
returns-clause-len c =
    ap length_of c.in-Ok.ensures.held ∙ length-map-range_with_len (packed_bit c.in_ok-copy.copy.items) 0 c.args.bits
