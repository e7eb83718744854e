use Rattle.rds_tool.proofs.Names.{◌≡◌, ◌∙◌, List, Result, RdsError, IsMemoryOrErrOf, ap, subst, sym, text_of_task, ℕ}
use Rattle.rds_tool.{specs.Inside.Texts.bytes_of, specs.declared.task.Task.Task, proofs.Passing.passed, proofs.Texts.no_failure, proofs.Transcribing.at_bytes, proofs.Transcribing.at_read, proofs.Transcribing.at_writer, proofs.engine.transcribe_by.Given.Over, proofs.engine.transcribe_by.Goals.In_ok-read_all}
use Rattle.rds_tool.proofs.engine.transcribe_by.Goals as goal

module _ (g : Over) (c : In_ok-read_all g) where
  abbrev held : List ℕ
  held = g.T.Taker.taken c.read_all.new.taker

  -- the text is made of all bytes
  text_is : (task : Task) → ((bytes : List ℕ) → g.T.Taker.text c.args.taker bytes ≡ text_of_task task bytes) → g.T.Taker.text c.read_all.new.taker held ≡ text_of_task task held
  text_is task same = ap (λ (made : List ℕ → Result (List ℕ) RdsError). made held) c.in_ok-read_all.ensures.text ∙ same held

pub returns-in_err-read_all : goal.returns-in_err-read_all
returns-in_err-read_all g c = λ job task is same.
    let read = c.in_err-read_all.ensures in
    at_read g.S.Source g.K.Sink job _ _ _ _ task c.in_err-read_all.field-0.0 is (passed _ _ c.from_residual.ensures) read.kinds read.read read.turns read.turned

pub returns-in_err-text : goal.returns-in_err-text
returns-in_err-text g c = λ job task is same.
    let read = c.in_ok-read_all.ensures in
    let d = (goal.at.returns-in_err-text g c).In_ok-read_all in
    at_bytes g.S.Source g.K.Sink job _ _ _ _ task (held g d) is read.ok read.given read.ended
    (no_failure tt _ _ read.read) c.in_err-text.field-0.0 (passed _ _ c.from_residual-in_err-text.ensures)
    (subst (λ t. IsMemoryOrErrOf t c.in_err-text.field-0.0) (text_is g d task same) c.in_err-text.ensures.refused)

pub returns : goal.returns
returns g c = λ job task is same.
    let read = c.in_ok-read_all.ensures in
    let wrote = c.write_to.ensures in
    let d = (goal.at.returns g c).In_ok-read_all in
    at_writer g.S.Source g.K.Sink job _ _ _ _ task (held g d) is read.ok read.given read.ended
    (no_failure tt _ _ read.read) _ (bytes_of c.in_ok-text.text) (sym (text_is g d task same) ∙ c.in_ok-text.ensures.ok) read.end
    wrote.ok wrote.flushed wrote.write wrote.kinds wrote.untouched wrote.prefix
