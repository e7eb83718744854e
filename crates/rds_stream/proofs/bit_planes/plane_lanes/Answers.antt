use Rattle.rds_stream.proofs.Names.{◌≡◌, ℕ, ◌+◌, ◌-◌, ◌*◌, ◌<◌, ◌≤◌, ◌∙◌, sym, ap, arith, get_or, bit_at, bit_at-lt, IsWindowAt, window}
use Rattle.rds_stream.proofs.WindowBits.{window_lt, window_bit}
use Rattle.rds_stream.proofs.bit_planes.plane_lanes.Goals as goal

pub returns : goal.returns
returns c j k lane within =
    let b = c.args.recording.now.bits in
    let at = c.args.at in
    let places = get_or c.places.result j 0 in
    let place = at + (32 * j + k) in
    let first = c.requires.first in
    let last = c.requires.last in
    let start = at - 25 + 32 * j in
    let here = λ (i : ℕ) (low : i ≤ place) (high : place < i + 26).
    let same : at - 25 + (32 * j + (i - start)) ≡ i = omega arith in
    c.places.ensures j (i - start) lane (omega arith) ∙ ap (λ p. get_or b p 0) same in
    let digits : (i : ℕ) → i ≤ place → place < i + 26 → get_or b i 0 < 2 = λ i low high. omega (arith, here i low high, bit_at-lt places (i - start)) in
    let block = window_lt b place (omega arith) (omega arith) digits in
    let is : IsWindowAt places k (window b place) = record {
      block = block;
      bits = λ t l.
          let same : place - t - start ≡ k + (25 - t) = omega arith in
          window_bit b place t (omega arith) (omega arith) l digits ∙ sym (here (place - t) (omega arith) (omega arith)) ∙ ap (bit_at places) same;
    } in
    record {
      small = (c.blocks_have_one_remainder.ensures.some (window b place) block).small;
      bits = λ r inside. c.planes_of.ensures j r k (window b place) lane inside is;
    }
