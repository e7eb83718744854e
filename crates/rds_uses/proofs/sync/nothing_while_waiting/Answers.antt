use Rattle.rds_uses.proofs.Names.{None, Option, RuleNumbers, Searching, Signal, Some, [], acquired, arith, refl, run, ℕ, ◌<◌, ◌≡◌, ◌≤◌}
use Rattle.rds_sync.specs.Laws.{AcquisitionsAreLate, SearchesGoOn}
use Rattle.rds_uses.proofs.sync.nothing_while_waiting.Goals as goal

none_early : (i : ℕ) (found : Option ℕ) → i < 51 → ((x : ℕ) → found ≡ Some x → 51 ≤ i) → found ≡ None
none_early i None early late = refl
none_early i (Some x) early late = absurd (omega (arith, late x refl))

at_first : SearchesGoOn → AcquisitionsAreLate → (b : Signal) (rules : RuleNumbers) → run b rules Searching 0 51 ≡ (Searching, [])
at_first go_on late b rules = go_on b rules 0 51 (omega arith) (λ i _ early. none_early i (acquired b rules i) early (λ x is. (late b rules i x is).0))

pub returns-clause-state : goal.returns-clause-state
returns-clause-state c = let quiet = at_first c.searches_go_on.ensures c.acquisitions_are_late.ensures c.args.recording.now c.args.rules.now in grind arith

pub returns-clause-items : goal.returns-clause-items
returns-clause-items c = let quiet = at_first c.searches_go_on.ensures c.acquisitions_are_late.ensures c.args.recording.now c.args.rules.now in grind arith
