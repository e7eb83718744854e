use Rattle.std.proofs.Common.{◌≡◌, map, rules}
use Rattle.rds_uses.proofs.CommandLines.{has_bad_gaps, no_fault_of_gaps, scan_with_bad_gaps}
use Rattle.rds_uses.proofs.commands.scan_with_bad_gaps.Goals as goal

pub returns : goal.returns
returns c =
    let words_are : map (λ word. word.now) c.as_slice.result.now ≡ scan_with_bad_gaps = search rules in
    let gaps = c.asked_of.ensures.gaps in
    (rw words_are at gaps) no_fault_of_gaps has_bad_gaps
