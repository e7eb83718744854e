-- The laws of pieces, over only the definitions. Each is the contract of the function of its name in `laws`.
use Rattle.std.specs.Prelude.{ℕ, ◌≤◌, List, ◌∷◌, ◌++◌}
use Rattle.rds_stream.specs.Recording.{Signal, length_of}
use Rattle.rds_sync.specs.Rules.{RuleNumbers}
use Rattle.rds_pieces.specs.{Cutting.IsCutting, Cutting.pieces_of, RunOf.RunOf, RunOf.run_over, RunOf.runs_of, RunOf.FollowEachOther}

-- a cutting has at most as many pieces as there are bits
abbrev pub PiecesAreFew : Type 0
PiecesAreFew = (n : ℕ) (places : List ℕ) → IsCutting n places → pieces_of places ≤ n

-- the runs of all pieces of a cutting follow each other
abbrev pub PiecesFollow : Type 0
PiecesFollow = (b : Signal) (rules : RuleNumbers) (places : List ℕ) → IsCutting (length_of b) places
    → FollowEachOther b rules 0 (length_of b) (runs_of b rules places)

-- if two neighbours are joined, the runs follow each other as before
abbrev pub JoinedRunsFollow : Type 0
JoinedRunsFollow = (b : Signal) (rules : RuleNumbers) (from to : ℕ) (before : List RunOf) (left right : RunOf)
    (after : List RunOf)
    → FollowEachOther b rules from to (before ++ left ∷ right ∷ after)
    → FollowEachOther b rules from to (before ++ run_over b rules left.from right.to ∷ after)
