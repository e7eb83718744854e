use Rattle.rds_stream.proofs.Names.{◌≡◌, ℕ, ◌+◌, ◌*◌, ◌/◌, ◌%◌, ◌<◌, ◌∙◌, arith, subst, List, [], ◌∷◌, rem, window}
use Rattle.rds_stream.{specs.Planes.Hold, proofs.RemainderBits.ten_words}
use Rattle.rds_stream.proofs.bit_planes.planes.Goals as goal

pub returns : goal.returns
returns c k within =
    let b = c.args.recording.now.bits in
    let j = k / 32 in
    let bit = k % 32 in
    let lane : j < 2 = omega arith in
    let low : bit < 32 = omega arith in
    let split : 32 * j + bit ≡ k = omega arith in
    let held = c.plane_lanes.ensures j bit lane low in
    let words : List ℕ = c.join_lanes.result ∷ c.join_lanes-2.result ∷ c.join_lanes-3.result ∷ c.join_lanes-4.result ∷ c.join_lanes-5.result ∷ c.join_lanes-6.result ∷ c.join_lanes-7.result ∷ c.join_lanes-8.result ∷ c.join_lanes-9.result ∷ c.join_lanes-10.result ∷ [] in
    subst (λ (p : ℕ). Hold words p (rem (window b (c.args.at + p)))) split (record {
      small = held.small;
      bits = ten_words (32 * j + bit) _ _ _ _ _ _ _ _ _ _ _
          (c.join_lanes.ensures j bit lane low ∙ held.bits 0 (omega arith))
          (c.join_lanes-2.ensures j bit lane low ∙ held.bits 1 (omega arith))
          (c.join_lanes-3.ensures j bit lane low ∙ held.bits 2 (omega arith))
          (c.join_lanes-4.ensures j bit lane low ∙ held.bits 3 (omega arith))
          (c.join_lanes-5.ensures j bit lane low ∙ held.bits 4 (omega arith))
          (c.join_lanes-6.ensures j bit lane low ∙ held.bits 5 (omega arith))
          (c.join_lanes-7.ensures j bit lane low ∙ held.bits 6 (omega arith))
          (c.join_lanes-8.ensures j bit lane low ∙ held.bits 7 (omega arith))
          (c.join_lanes-9.ensures j bit lane low ∙ held.bits 8 (omega arith))
          (c.join_lanes-10.ensures j bit lane low ∙ held.bits 9 (omega arith));
    })
