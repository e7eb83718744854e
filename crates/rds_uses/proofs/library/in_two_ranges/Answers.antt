use Rattle.rds_uses.proofs.Names.{item_in_c, length-map-range_with_len, packed_bit}
use Rattle.rds_uses.proofs.Wholes.{whole_in_two, written}
use Rattle.rds_abi.specs.{Asked.recording_of, Asked.rules_of, Ranges.state_of}
use Rattle.rds_uses.proofs.library.in_two_ranges.Goals as goal

pub returns : goal.returns
returns c =
    let first = c.in_ok-run.ensures in
    let next = c.in_ok-run-2.ensures in
    let end = c.in_ok-finish_run.ensures in
    let rules = rules_of c.args.rules in
    let len = length-map-range_with_len (packed_bit c.args.bytes.now) 0 c.args.bits in
    rw (written _ _ _ _ first.filled first.count, written _ _ _ _ next.filled next.count, written _ _ _ _ end.filled end.count)
    (whole_in_two item_in_c c.runs_join.ensures c.runs_are_reports.ensures (recording_of c.args.bytes.now c.args.bits c.args.gaps.now) rules
    first.lawful.asked.rules.range.loss.0 c.args.bits len c.args.middle first.lawful.within
    (state_of c.run.new.state) (state_of c.run-2.new.state) first.state next.state)
