use Rattle.rds_uses.proofs.Names.{on_ok_weaker, result_of_job, ◌≡◌}
use Rattle.rds_uses.proofs.Outcomes.{added, given_back, prefix_back}
use Rattle.rds_uses.proofs.tool.append_listing.Goals as goal

pub returns-clause-whole : goal.returns-clause-whole
returns-clause-whole g c =
    let held : c.new.result.reader.now ≡ c.args.bytes.now = cc in
    let sink = c.new-writer.result in
    let after = c.transcribe-done.new.writer in
    let same : c.new-writer.result.begun.value.items ≡ c.args.text.items = cc in
    on_ok_weaker c.transcribe-done.result
    (λ is. added _ _ _ (given_back (result_of_job c.args.job.now) c.new.result.reader.now c.args.bytes.now c.args.text.items sink.begun.value.items sink.history.bytes after.begun.value.items after.history.bytes c.into_inner.result.items
    held same c.new-writer.ensures.taken c.into_inner.ensures.tied is))
    c.transcribe-done.ensures.ok

pub returns-clause-part : goal.returns-clause-part
returns-clause-part g c = λ p.
    let held : c.new.result.reader.now ≡ c.args.bytes.now = cc in
    let sink = c.new-writer.result in
    let after = c.transcribe-done.new.writer in
    let same : c.new-writer.result.begun.value.items ≡ c.args.text.items = cc in
    prefix_back (result_of_job c.args.job.now) c.new.result.reader.now c.args.bytes.now c.args.text.items sink.begun.value.items sink.history.bytes after.begun.value.items after.history.bytes c.into_inner.result.items
    held same c.new-writer.ensures.taken c.into_inner.ensures.tied (c.transcribe-done.ensures.prefix p)
