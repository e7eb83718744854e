use Rattle.rds_stream.proofs.Names.{◌≡◌, ◌↔◌, ◌+◌, ◌*◌, ◌/◌, ◌%◌, ◌<◌, ◌∙◌, ap, sym, subst, arith, get_or, ℕ, Option, IsSome, bit_at, Offset, rem, offset_of, window}
use Rattle.rds_stream.proofs.WindowLists.{off_clear}
use Rattle.rds_stream.proofs.valid_places.at_once.Goals as goal

pub returns : goal.returns
returns c k within =
    let b = c.args.recording.now in
    let at = c.args.at in
    let j = k / 32 in
    let bit = k % 32 in
    let lane : j < 2 = omega arith in
    let low : bit < 32 = omega arith in
    let split : 32 * j + bit ≡ k = omega arith in
    let held = c.plane_lanes.ensures j bit lane low in
    let is = c.offset_words.ensures j bit (rem (window b.bits (at + (32 * j + bit)))) lane low held in
    let there : bit_at c.join_lanes.result k ≡ bit_at (get_or c.offset_words.result j 0) bit = sym (ap (bit_at c.join_lanes.result) split) ∙ c.join_lanes.ensures j bit lane low in
    let same : at + (32 * j + bit) ≡ at + k = omega arith in
    let offset = sym (ap (λ (p : ℕ). rem (window b.bits p)) same) in
    subst (λ (o : Option Offset). (bit_at c.join_lanes.result k ≡ 1) ↔ IsSome o) (sym (off_clear b (at + k) (omega (arith, c.requires.first)) (c.requires.clear (at + k) (omega arith) (omega arith))))
    (subst (λ (r : ℕ). (bit_at c.join_lanes.result k ≡ 1) ↔ IsSome (offset_of r)) (sym offset) (λ h. is.0 (sym there ∙ h), λ s. there ∙ is.1 s))
