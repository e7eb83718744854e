use Rattle.rds_tool.{specs.Inside.Texts.bytes_of, proofs.Passing.passed, proofs.Texts.no_failure, proofs.Transcribing.at_bytes, proofs.Transcribing.at_read, proofs.Transcribing.at_writer}
use Rattle.rds_tool.proofs.engine.transcribe_held.Goals as goal

pub returns-in_err-read_all : goal.returns-in_err-read_all
returns-in_err-read_all g c = λ job is.
    let read = c.in_err-read_all.ensures in
    at_read g.S.Source g.K.Sink job _ _ _ _ c.args.task c.in_err-read_all.field-0.0 is (passed _ _ c.from_residual.ensures) read.kinds read.read read.turns read.turned

pub returns-in_err-text : goal.returns-in_err-text
returns-in_err-text g c = λ job is.
    let read = c.in_ok-read_all.ensures in
    at_bytes g.S.Source g.K.Sink job _ _ _ _ c.args.task c.read_all.new.taker.items is read.ok read.given read.ended
    (no_failure tt _ _ read.read) c.in_err-text.field-0.0 (passed _ _ c.from_residual-in_err-text.ensures) c.in_err-text.ensures.refused

pub returns : goal.returns
returns g c = λ job is.
    let read = c.in_ok-read_all.ensures in
    let wrote = c.write_to.ensures in
    at_writer g.S.Source g.K.Sink job _ _ _ _ c.args.task c.read_all.new.taker.items is read.ok read.given read.ended
    (no_failure tt _ _ read.read) _ (bytes_of c.in_ok-text.text) c.in_ok-text.ensures.ok read.end
    wrote.ok wrote.flushed wrote.write wrote.kinds wrote.untouched wrote.prefix
