use Rattle.rds_rows.proofs.Names.{◌≡◌, ◌++◌, ◌-◌, kept_in, parts_from, AppendsBut}
use Rattle.rds_rows.proofs.rounds.Rounds.gather.Given as goal

abbrev pub invariant-loop-k : goal.invariant-loop-k
invariant-loop-k g l = record {
  name : g.W.OwnedSink.name l.caller.out ≡ g.W.OwnedSink.name l.fn.caller.out;
  written : AppendsBut (g.W.OwnedSink.contents l.fn.caller.out) (g.W.OwnedSink.contents l.caller.out) (kept_in l.fn.caller.gathered ++ parts_from g.J.PartSpec.part l.fn.first (l.k - l.fn.first)) (kept_in l.caller.gathered);
  count : g.W.OwnedSink.failed l.caller.out ≡ g.W.OwnedSink.failed l.fn.caller.out;
}
