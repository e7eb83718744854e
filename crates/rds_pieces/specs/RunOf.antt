-- The view that contracts have of the run of a piece, and which runs follow each other. `speculate`,
-- `join_runs` and `stitch` cite it, and `Work`, by which a crew calls them.
use Rattle.std.specs.{Prelude.◌≡◌, Prelude.ℕ, Prelude.◌+◌, Prelude.◌-◌, Prelude.◌≤◌, Prelude.List, Prelude.[], Prelude.◌∷◌, Prelude.map, Prelude.slice_index, List.range_with_len}
use Rattle.rds_stream.specs.Recording.{Signal}
use Rattle.rds_sync.specs.{declared.state.State.State, Rules.RuleNumbers}
use Rattle.rds_pieces.specs.{Cutting.pieces_of, Guess.guess}

-- a run is named by its recording, its rules and its range: the places from `from` to `to` - 1
pub record RunOf : Type 0 where
  pub source : Signal
  pub rules : RuleNumbers
  pub from : ℕ
  pub to : ℕ

-- the state after its last bit
abbrev pub end_of : RunOf → State
end_of r = (guess r.source r.rules r.from (r.to - r.from)).0

module _ (b : Signal) (rules : RuleNumbers) where
  -- a run of this recording, by these rules
  abbrev pub IsRunOf : RunOf → Type 0
  IsRunOf r = (r.source ≡ b) × (r.rules ≡ rules)

  -- the run of a range
  abbrev pub run_over : ℕ → ℕ → RunOf
  run_over from to = record { source = b; rules = rules; from = from; to = to }

  -- the run of piece j of a cutting
  abbrev pub run_at : List ℕ → ℕ → RunOf
  run_at places j = run_over (slice_index places j) (slice_index places (j + 1))

  -- the runs of all pieces, in order
  abbrev pub runs_of : List ℕ → List RunOf
  runs_of places = map (run_at places) (range_with_len 0 (pieces_of places))

  -- the runs follow each other from `from` to `to`; a run may be empty
  abbrev pub FollowEachOther : ℕ → ℕ → List RunOf → Type 0
  FollowEachOther from to [] = from ≡ to
  FollowEachOther from to (r ∷ rs) = (r ≡ run_over from r.to) × (from ≤ r.to) × FollowEachOther r.to to rs
