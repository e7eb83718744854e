use Rattle.rds_stream.proofs.Names.{◌+◌, ◌-◌, ◌*◌, ◌/◌, ◌%◌, arith}
use Rattle.rds_stream.proofs.BitOrder.{swapped, even_pairs}
use Rattle.rds_stream.proofs.bit_order.pairs_swapped.Goals as goal

pub returns : goal.returns
returns c k within =
    swapped c.args.word 0x3333333333333333 2 (k / 2 % 2) k (k + 2 - 4 * (k / 2 % 2)) within (omega arith) (even_pairs k within) (λ le. omega (arith, even_pairs (k - 2) (omega arith))) (λ e. omega arith) (λ e. (omega arith, omega arith))
