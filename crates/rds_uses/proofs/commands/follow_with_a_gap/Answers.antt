use Rattle.rds_uses.proofs.Names.{IfErr-weaker, IfOk-weaker, map, rules, ◌≡◌}
use Rattle.rds_uses.proofs.CommandLines.{follow_with_a_gap, has_the_gap, never, no_job_of_stream, words_or_memory}
use Rattle.rds_uses.proofs.commands.follow_with_a_gap.Goals as goal

pub returns : goal.returns
returns c =
    let words_are : map (λ word. word.now) c.as_slice-words.result.now ≡ follow_with_a_gap = search rules in
    let entries = c.asked_of.ensures.entries in
    let job = c.job_of.ensures.entries in
    let refused = c.job_of.ensures.refused in
    record {
      asked = IfOk-weaker c.asked_of.result _ _ has_the_gap (rw words_are at entries);
      no_job = never c.job_of.result (IfOk-weaker c.job_of.result _ _ no_job_of_stream (rw words_are at job));
      fault = IfErr-weaker c.job_of.result _ _ (λ fault. words_or_memory fault.kind) (rw words_are at refused);
    }
