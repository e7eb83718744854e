use Rattle.rds_tool.proofs.Names.{arith, rules, ◌∙◌, ap, length, refl}
use Rattle.rds_tool.proofs.{Passing.passed, Passing.passes, Reading.end_told, Reading.kind_told, Reading.ok_told, Reading.turns_not_told}
use Rattle.rds_tool.proofs.Reading.{read_steps}
use Rattle.rds_tool.proofs.engine.read_all.Goals as goal

pub returns-clause-turns : goal.returns-clause-turns
returns-clause-turns g c = λ _. (g.T.Taker.taken c.turns.taker, c.turns.invariant.taken, omega arith)

pub returns-clause-turned : goal.returns-clause-turned
returns-clause-turned g c = λ _. (g.T.Taker.taken c.turns.taker, c.turns.invariant.given, omega arith)

pub returns-in_err-is_at_end-clause-turned : goal.returns-in_err-is_at_end-clause-turned
returns-in_err-is_at_end-clause-turned g c = turns_not_told _ _ (passed _ _ c.from_residual-in_err-is_at_end.ensures) _ _ c.in_err-is_at_end.ensures.refused

pub returns-in_err-is_at_end-clause-kinds : goal.returns-in_err-is_at_end-clause-kinds
returns-in_err-is_at_end-clause-kinds g c = passes _ _ _ c.from_residual-in_err-is_at_end.ensures (kind_told _ _ _ c.in_err-is_at_end.ensures.refused)

pub returns-in_err-is_at_end-clause-turns : goal.returns-in_err-is_at_end-clause-turns
returns-in_err-is_at_end-clause-turns g c = turns_not_told _ _ (passed _ _ c.from_residual-in_err-is_at_end.ensures) _ _ c.in_err-is_at_end.ensures.refused

pub returns-then-is_at_end-clause-read : goal.returns-then-is_at_end-clause-read
returns-then-is_at_end-clause-read g c = ok_told _ _ _ (c.in_ok-is_at_end.ensures.count ∙ c.turns.invariant.count)

pub returns-clause-read : goal.returns-clause-read
returns-clause-read g c = end_told _ _ c.turns.invariant.count

pub read_some-requires-sync-R : goal.read_some-requires-sync-R
read_some-requires-sync-R g c = λ κs w. (
  search rules,
  (
    (refl, tt),
    (
      omega (arith, c.turns.invariant.count, c.requires.failed),
      omega (arith, ap (λ xs. length xs) c.as_mut_slice.ensures.value, c.turns.invariant.room),
    ),
  ),
)

pub returns-then-is_at_end-clause-given : goal.returns-then-is_at_end-clause-given
returns-then-is_at_end-clause-given = grind (arith, read_steps)

pub turns-smaller : goal.turns-smaller
turns-smaller = grind (arith, read_steps)

pub turns-preserved : goal.turns-preserved
turns-preserved = grind (arith, read_steps)
