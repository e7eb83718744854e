-- A walk over the marks of a run, bit by bit: the marks that are left, and the invariant of the next one. The type of the
-- walk keeps the invariant, and `mark_after` promises both.
use Rattle.std.specs.Prelude.{ℕ, zero, suc, ◌+◌, ◌*◌, ◌≤◌, List, [], ◌∷◌, ◌++◌, length}
use Rattle.rds_stream.specs.Recording.{Signal}
use Rattle.rds_sync.specs.{declared.state.State.State, declared.item.Item.Item, Lawful.IsLawful, Rules.RuleNumbers, Step.step, Step.items_at}
use Rattle.rds_pieces.specs.declared.mark.Mark.{Mark}

-- a mark, if its bit gave items
abbrev pub mark_where : List Item → Mark → List Mark
mark_where [] mark = []
mark_where (item ∷ items) mark = mark ∷ []

-- the mark before the bit at place a, in state s, after `before` items
abbrev pub mark_at : State → ℕ → ℕ → Mark
mark_at s a before = record { place = a; state = s; items = before }

module _ (b : Signal) (rules : RuleNumbers) where
  -- the marks after the next bits from place a, in state s, if `before` items were given before
  abbrev pub marks_on : State → ℕ → ℕ → ℕ → List Mark
  marks_on s a before zero = []
  marks_on s a before (suc bits) =
      let given : List Item = items_at b rules a s in
      let count : ℕ = before + length given in
      mark_where given (mark_at (step b rules a s) (a + 1) count)
      ++ marks_on (step b rules a s) (a + 1) count bits

-- the mark of a run, before place `to`, with at most two items per bit before it
pub record IsMarkIn (rules : RuleNumbers) (to : ℕ) (mark : Mark) : Type 0 where
  pub lawful : IsLawful rules mark.place mark.state
  pub inside : mark.place ≤ to
  pub few : mark.items ≤ 2 * mark.place
