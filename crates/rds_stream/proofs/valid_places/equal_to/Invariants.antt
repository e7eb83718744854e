use Rattle.rds_stream.proofs.Names.{◌≡◌, ℕ, ◌<◌, ◌↔◌, slice_index, bit_at}
use Rattle.rds_stream.proofs.Agreement.{Agree}
use Rattle.rds_stream.proofs.valid_places.equal_to.Given as goal

-- ones where the planes so far hold the word's bits so far
abbrev pub invariant-loop-r : goal.invariant-loop-r
invariant-loop-r l = (j k : ℕ) → j < 2 → k < 32 → (bit_at (slice_index l.same j) k ≡ 1) ↔ Agree l.planes l.word l.r j k
