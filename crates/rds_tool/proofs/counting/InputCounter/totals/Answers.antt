use Rattle.rds_tool.proofs.Names.{common_steps, arith, ◌≡◌, ◌∙◌, Bool, List, Ok, Result, ap, inr, subst, sym, ℕ, IfErr, IfOk, IfErr-weaker, IfOk-weaker, Signal, report_items, totals_of, and_then, claimed, first_bits, recording_of, CounterOf, InputCounterOf, IsTextOf, IsMemoryOrErrOf, RdsError, HexText}
use Rattle.rds_tool.proofs.{CountedBytes.decoded_whole, CountedBytes.refused_half, CountedBytes.refused_strange, counting.InputCounter.totals.Given.Over, counting.InputCounter.totals.Goals.After-finish, counting.InputCounter.totals.Goals.then-self-via-then-self, counting.InputCounter.totals.Goals.then-self-via-else-self+then-is_some}
use Rattle.rds_tool.proofs.counting.InputCounter.totals.Goals as goal

pub returns-then-self-clause-refused : goal.returns-then-self-clause-refused
returns-then-self-clause-refused g c =
    let s = c.self.inside in
    let k = s.counter in
    let known : Bool → Type 0 = λ strange. IsTextOf s.hex s.half strange s.text.bytes k.bytes in
    let step : List ℕ → Result Signal RdsError = λ bytes. first_bits (claimed k.bits bytes) k.terms.gaps bytes in
    subst (λ (m : InputCounterOf). IsMemoryOrErrOf (recording_of m.input m.text) HexText) c.self.view_is
    (elim c.then-self.branch [
      | then-self-via-then-self w ↦ inr (ap (λ r. and_then r step) (refused_strange s.half s.text.bytes k.bytes s.hex (subst known w.if-self.true c.self.invariant)))
      | then-self-via-else-self+then-is_some w ↦
          inr (ap (λ r. and_then r step) (refused_half s.half s.text.bytes k.bytes s.hex (sym w.is_some.ensures ∙ w.if-is_some.true) (subst known w.if-self.false c.self.invariant)))
    ])

module _ (g : Over) (c : After-finish g) where
  abbrev k : CounterOf
  k = c.self.inside.counter

  recorded_as : recording_of (record { hex = c.self.inside.hex; bits = k.bits; gaps = k.terms.gaps }) c.self.inside.text.bytes ≡ first_bits (claimed k.bits k.bytes) k.terms.gaps k.bytes
  recorded_as = grind (arith, common_steps, decoded_whole)

pub returns-clause-totals : goal.returns-clause-totals
returns-clause-totals g c =
    let d = (goal.at.returns-clause-totals g c).After-finish in
    subst (λ (m : InputCounterOf). IfOk c.finish.result (λ totals. (x : Signal) × (recording_of m.input m.text ≡ Ok x) × (totals ≡ totals_of (report_items x m.rules)))) c.self.view_is
    (IfOk-weaker c.finish.result _ _ (λ totals made. (made.0, recorded_as g d ∙ made.1, made.2)) c.finish.ensures.totals)

told : (made wanted : Result Signal RdsError) → wanted ≡ made → (e : RdsError) → IsMemoryOrErrOf made e → IsMemoryOrErrOf wanted e
told made wanted same e it = grind (arith, common_steps)

pub returns-clause-refused : goal.returns-clause-refused
returns-clause-refused g c =
    let d = (goal.at.returns-clause-refused g c).After-finish in
    subst (λ (m : InputCounterOf). IfErr c.finish.result (IsMemoryOrErrOf (recording_of m.input m.text))) c.self.view_is
    (IfErr-weaker c.finish.result _ _ (told _ _ (recorded_as g d)) c.finish.ensures.refused)
