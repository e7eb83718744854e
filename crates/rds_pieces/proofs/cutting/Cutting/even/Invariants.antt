use Rattle.rds_pieces.proofs.Names.{◌≡◌, ◌*◌, map, range_with_len}
use Rattle.rds_pieces.proofs.cutting.Cutting.even.Given as goal

abbrev pub invariant-loop-piece : goal.invariant-loop-piece
invariant-loop-piece l = l.places.items ≡ map (λ k. k * l.bits) (range_with_len 0 l.piece)
