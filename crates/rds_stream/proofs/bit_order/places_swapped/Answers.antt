use Rattle.rds_stream.proofs.Names.{◌+◌, ◌-◌, ◌*◌, ◌%◌, arith}
use Rattle.rds_stream.proofs.BitOrder.{swapped, even_places}
use Rattle.rds_stream.proofs.bit_order.places_swapped.Goals as goal

pub returns : goal.returns
returns c k within =
    swapped c.args.word 0x5555555555555555 1 (k % 2) k (k + 1 - 2 * (k % 2)) within (omega arith) (even_places k within) (λ le. omega (arith, even_places (k - 1) (omega arith))) (λ e. omega arith) (λ e. (omega arith, omega arith))
