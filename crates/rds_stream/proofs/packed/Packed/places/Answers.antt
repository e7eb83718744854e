use Rattle.rds_stream.proofs.Names.{◌≡◌, ◌+◌, ◌*◌, ◌/◌, ◌%◌, ◌^◌, ◌<◌, ◌∙◌, ℕ, zero, suc, [], ◌∷◌, sym, ap, arith, length, get_or, bit_at, packed_bit}
use Rattle.rds_stream.proofs.{Places.length-bits_of, Places.get_or-bits_of, BitOrder.shr_bit}
use Rattle.rds_stream.proofs.packed.Packed.places.Goals as goal

pub eight_bytes-requires : goal.eight_bytes-requires
eight_bytes-requires c = omega (arith, length-bits_of c.self.inside.bytes.items c.self.inside.bits, ap length c.self.view_is, ap length c.as_slice-bytes.ensures.value)

pub eight_bytes-requires-2 : goal.eight_bytes-requires-2
eight_bytes-requires-2 c = omega (arith, length-bits_of c.self.inside.bytes.items c.self.inside.bits, ap length c.self.view_is, ap length c.as_slice-bytes.ensures.value)

-- bits of two words, 32 places apart
of_two : (f : ℕ → ℕ) (from low high j k : ℕ) → j < 2 → k < 57
    → ((t : ℕ) → t < 64 → bit_at low t ≡ f (8 * (from / 8) + t)) → ((t : ℕ) → t < 64 → bit_at high t ≡ f (8 * (from / 8 + 4) + t))
    → bit_at (get_or (low / 2 ^ (from % 8) ∷ high / 2 ^ (from % 8) ∷ []) j 0) k ≡ f (from + (32 * j + k))
of_two f from low high zero k lane within first second =
    let place : 8 * (from / 8) + (from % 8 + k) ≡ from + (32 * 0 + k) = omega arith in
    shr_bit low (from % 8) k ∙ first (from % 8 + k) (omega arith) ∙ ap f place
of_two f from low high (suc zero) k lane within first second =
    let place : 8 * (from / 8 + 4) + (from % 8 + k) ≡ from + (32 * 1 + k) = omega arith in
    shr_bit high (from % 8) k ∙ second (from % 8 + k) (omega arith) ∙ ap f place
of_two f from low high (suc (suc j)) k lane within first second = absurd (omega arith)

pub returns : goal.returns
returns c j k lane within =
    let bytes = c.as_slice-bytes.result.now in
    let from = c.args.from in
    let bits = c.self.inside.bits in
    let place = from + (32 * j + k) in
    let held : place < bits = omega (arith, length-bits_of c.self.inside.bytes.items bits, ap length c.self.view_is) in
    of_two (packed_bit bytes) from c.eight_bytes.result c.eight_bytes-2.result j k lane within c.eight_bytes.ensures c.eight_bytes-2.ensures
    ∙ ap (λ b. packed_bit b place) c.as_slice-bytes.ensures.value
    ∙ sym (get_or-bits_of c.self.inside.bytes.items bits place held) ∙ ap (λ b. get_or b place 0) c.self.view_is
