use Rattle.rds_stream.proofs.Names.{◌+◌, ◌-◌, ◌*◌, ◌/◌, ◌%◌, arith}
use Rattle.rds_stream.proofs.BitOrder.{swapped, even_fours}
use Rattle.rds_stream.proofs.bit_order.fours_swapped.Goals as goal

pub returns : goal.returns
returns c k within =
    swapped c.args.word 0x0F0F0F0F0F0F0F0F 4 (k / 4 % 2) k (k + 4 - 8 * (k / 4 % 2)) within (omega arith) (even_fours k within) (λ le. omega (arith, even_fours (k - 4) (omega arith))) (λ e. omega arith) (λ e. (omega arith, omega arith))
