-- Runs that follow each other: those of a cutting, and those where two neighbours are joined.
use Rattle.rds_pieces.proofs.Names.{common_steps, ◌≡◌, ℕ, zero, suc, ◌+◌, List, [], ◌∷◌, map, get_or, arith, range_with_len, Signal, length_of, RuleNumbers, IsCutting, pieces_of, run_at, FollowEachOther}
use Rattle.rds_pieces.{specs.Laws.PiecesAreFew, specs.Laws.PiecesFollow, specs.Laws.JoinedRunsFollow, proofs.CuttingLemmas.piece_inside, proofs.CuttingLemmas.pieces_at_most}

pub pieces_few : PiecesAreFew
pieces_few n places cutting = pieces_at_most n places cutting

module _ (b : Signal) (rules : RuleNumbers) where
  -- the runs of the pieces from piece j on
  follow_from : (places : List ℕ) → IsCutting (length_of b) places → (m j : ℕ) → j + m ≡ pieces_of places
      → FollowEachOther b rules (get_or places j 0) (length_of b) (map (run_at b rules places) (range_with_len j m))
  follow_from places cutting zero j e = grind (arith, common_steps)
  follow_from places cutting (suc m) j e = grind (arith, common_steps, piece_inside, follow_from places cutting m (j + 1) (omega arith))

pub pieces_in_a_row : PiecesFollow
pieces_in_a_row b rules places cutting = grind (arith, common_steps, follow_from)

pub joined_in_a_row : JoinedRunsFollow
joined_in_a_row b rules from to [] left right after h = grind (arith, common_steps)
joined_in_a_row b rules from to (r ∷ rs) left right after h = (h.0, h.1, joined_in_a_row b rules r.to to rs left right after h.2)
