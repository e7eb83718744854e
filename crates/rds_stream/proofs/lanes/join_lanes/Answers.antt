use Rattle.rds_stream.proofs.Names.{common_steps, ◌+◌, ◌*◌, ◌%◌, ◌<◌, ◌≡◌, suc, zero, ℕ, arith, get_or, bit_and, bit_or, List, bit_at}
use Rattle.rds_stream.proofs.BitOrder.{joined_low, joined_high}
use Rattle.rds_stream.proofs.lanes.join_lanes.Goals as goal

either_lane : (lanes : List ℕ) (j k : ℕ) → j < 2 → k < 32 →
    bit_at (bit_or (bit_and (get_or lanes 0 0) 4294967295) (get_or lanes 1 0 * 4294967296 % 18446744073709551616)) (32 * j + k) ≡ bit_at (get_or lanes j 0) k
either_lane lanes zero k lane within = grind (arith, common_steps, joined_low)
either_lane lanes (suc zero) k lane within = joined_high (get_or lanes 0 0) (get_or lanes 1 0) k within
either_lane lanes (suc (suc j)) k lane within = absurd (omega arith)

pub returns : goal.returns
returns c j k lane within = either_lane c.args.lanes j k lane within
