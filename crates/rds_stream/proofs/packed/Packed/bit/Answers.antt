use Rattle.rds_stream.proofs.Names.{common_steps, ◌≡◌, ℕ, ◌<◌, ap, arith, length, nat_eq, if◌then◌else◌}
use Rattle.rds_stream.proofs.Places.{length-bits_of, get_or-bits_of}
use Rattle.rds_stream.proofs.packed.Packed.bit.Goals as goal

pub bit_of-requires : goal.bit_of-requires
bit_of-requires c = omega (arith, length-bits_of c.self.inside.bytes.items c.self.inside.bits, ap length c.self.view_is, ap length c.deref.ensures.value)

-- a digit by its test
tested : (d : ℕ) → d < 2 → d ≡ (if nat_eq d 1 then 1 else 0)
tested d p = grind (arith, common_steps, nat_eq)

pub returns : goal.returns
returns c = grind (arith, common_steps, length-bits_of, get_or-bits_of, tested)
