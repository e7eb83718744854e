-- The guess of a piece, this project's rule: the run from Searching at the piece's first place. A `PieceRun`
-- tells it of itself, by `items`, `list`, `totals` and `end_state`.
use Rattle.std.specs.Prelude.{ℕ, List}
use Rattle.rds_stream.specs.Recording.{Signal}
use Rattle.rds_sync.specs.{declared.state.State.State, declared.state.State.TheVariants.Searching, declared.item.Item.Item, Rules.RuleNumbers, Step.run}

module _ (b : Signal) (rules : RuleNumbers) (from : ℕ) where
  -- the state and the items after the first `bits` bits of the piece
  abbrev pub guess : ℕ → State × List Item
  guess bits = run b rules Searching from bits
