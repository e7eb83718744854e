use Rattle.rds_tool.proofs.Names.{◌≡◌, ◌++◌, ◌⊎◌, ◌^◌, ◌∙◌, common_steps, arith, Err, List, Ok, Result, ap, subst, sym, ℕ, IfErr, IfErr-weaker, IfOk-weaker, AreGaps, and_then, recording_of_symbols, soft_text, IsMemoryOrErrOf, RdsError, SoftTerms, BadGaps, OutOfMemory}
use mathlib.Core.Path.{ap₂}
use Rattle.rds_tool.proofs.{HeldSymbols.never-gaps, Passing.passed}
use Rattle.rds_tool.specs.{Inside.HeldSymbols.HeldOf, Inside.HeldSymbols.HeldTerms, Inside.HeldSymbols.text_of_held, InputOf.InputOf}
use Rattle.rds_tool.proofs.making.soft_text_of.{Given.Over, Goals.After-finish}
use Rattle.rds_tool.proofs.making.soft_text_of.Goals as goal

told : (text : Result (List ℕ) RdsError) (e : RdsError) → (e ≡ BadGaps) ⊎ (e ≡ OutOfMemory) → (e ≡ BadGaps → text ≡ Err BadGaps) → IsMemoryOrErrOf text e
told text e kinds gaps = grind (arith, common_steps)

pub returns-in_err-symbols-clause-refused : goal.returns-in_err-symbols-clause-refused
returns-in_err-symbols-clause-refused g c =
    let held = c.args.held.items in
    let rules = c.args.plan.now.rules in
    let i = c.input.inside in
    let ok = c.in_ok-check_symbols.ensures.ok in
    let refused = c.in_err-symbols.ensures in
    let text : InputOf → Result (List ℕ) RdsError = λ input. and_then (recording_of_symbols input held) (λ recording. Ok (soft_text c.args.has_rows rules c.args.margin held recording)) in
    let terms : SoftTerms = record { rules = rules; gaps = i.gaps.items; margin = c.args.margin } in
    subst (λ r. IfErr r (IsMemoryOrErrOf (text c.args.input.now))) (sym (passed _ _ c.from_residual-in_err-symbols.ensures))
    (told (text c.args.input.now) c.in_err-symbols.field-0.0 refused.refused
    (λ is. subst (λ (input : InputOf). text input ≡ Err BadGaps) c.input.view_is
    (never-gaps terms i.bits c.args.has_rows held c.len.result (omega (arith, c.len.ensures, c.args.held.small)) ok.0 ok.1
    (λ are. refused.bad_gaps (ap (λ e. Err e) is) (subst (λ (input : InputOf). AreGaps (2 ^ 36) input.gaps) c.input.view_is are)))))

module _ (g : Over) (c : After-finish g) where
  abbrev text : HeldTerms → List ℕ → Result (List ℕ) RdsError
  text = text_of_held

  -- all bytes were taken, by the terms
  text_is : text c.take.new.self.terms c.take.new.self.symbols
      ≡ and_then (recording_of_symbols c.args.input.now c.args.held.items) (λ recording. Ok (soft_text c.args.has_rows c.args.plan.now.rules c.args.margin c.args.held.items recording))
  text_is =
      let new = c.in_ok-symbols.ensures.new in
      let symbols = c.in_ok-take.ensures.taken ∙ ap₂ (λ (xs ys : List ℕ). xs ++ ys) (ap (λ (h : HeldOf). h.symbols) new) c.as_mut_slice.ensures.value in
      ap₂ (λ (made : List ℕ → Result (List ℕ) RdsError) (xs : List ℕ). made xs) (c.in_ok-take.ensures.text ∙ ap (λ (h : HeldOf). text h.terms) new) symbols

pub returns-clause-ok : goal.returns-clause-ok
returns-clause-ok g c =
    IfOk-weaker c.finish.result _ _ (λ made said. sym (text_is g (goal.at.returns-clause-ok g c).After-finish) ∙ said) c.finish.ensures.ok

pub returns-clause-refused : goal.returns-clause-refused
returns-clause-refused g c =
    IfErr-weaker c.finish.result _ _ (λ e said. subst (λ r. IsMemoryOrErrOf r e) (text_is g (goal.at.returns-clause-refused g c).After-finish) said) c.finish.ensures.refused
