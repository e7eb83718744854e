use Rattle.rds_tool.proofs.Names.{rules, ◌≡◌, ◌∙◌, ◌^◌, Err, List, ap, inl, inr, refl, subst, ℕ, AreGaps, InputOf, RdsError, OutOfMemory}
use Rattle.rds_tool.specs.Inside.HeldSymbols.{HeldOf, text_of_held}
use Rattle.rds_tool.proofs.{Passing.passed, Transcribing.at_memory}
use Rattle.rds_tool.specs.declared.task.Task.TheVariants as task
use Rattle.rds_tool.proofs.engine.transcribe_soft.Goals as goal

pub returns-in_err-symbols : goal.returns-in_err-symbols
returns-in_err-symbols g c = λ job is.
    let made = c.in_err-symbols.ensures in
    let are = subst (λ (gaps : List (ℕ × ℕ)). AreGaps (2 ^ 36) gaps) c.as_slice.ensures.value (c.may_have_gaps.ensures.0 c.if-may_have_gaps.true) in
    let allowed = subst (λ (i : InputOf). AreGaps (2 ^ 36) i.gaps) c.input.view_is are in
    let memory : c.in_err-symbols.field-0.0 ≡ OutOfMemory = elim made.refused [
      | inl bad ↦ absurd (made.bad_gaps (ap (λ (e : RdsError). Err e) bad) allowed)
      | inr same ↦ same
    ] in
    at_memory g.S.Source g.K.Sink job _ _ _ (task.Soft c.args.input c.args.plan c.args.margin c.args.has_rows) is
    (passed _ _ c.from_residual.ensures ∙ ap (λ (e : RdsError). Err e) memory)

pub transcribe_by-requires-sync-R : goal.transcribe_by-requires-sync-R
transcribe_by-requires-sync-R g c = λ κs w.
    (search rules, ((refl, tt), (c.requires.reads, (c.requires.writes, ap (λ (h : HeldOf). h.symbols) c.in_ok-symbols.ensures.new))))

pub returns-then-may_have_gaps : goal.returns-then-may_have_gaps
returns-then-may_have_gaps g c = λ job is.
    c.transcribe_by.ensures job (task.Soft c.args.input c.args.plan c.args.margin c.args.has_rows) is
    (λ bytes. ap (λ (h : HeldOf). text_of_held h.terms bytes) c.in_ok-symbols.ensures.new)
