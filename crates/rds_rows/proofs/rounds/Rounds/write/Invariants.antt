use Rattle.rds_rows.proofs.Names.{◌-◌, ◌≡◌, ◌≤◌, kept_in, first_parts, AppendsBut}
use Rattle.rds_rows.proofs.rounds.Rounds.write.Given as goal

abbrev pub invariant-rounds : goal.invariant-rounds
invariant-rounds g l = record {
  order : l.first ≤ l.self.parts;
  name : g.W.OwnedSink.name l.caller.out ≡ g.W.OwnedSink.name l.fn.caller.out;
  written : AppendsBut (g.W.OwnedSink.contents l.fn.caller.out) (g.W.OwnedSink.contents l.caller.out) (first_parts g.J.PartSpec.part l.first) (kept_in l.caller.gathered);
  count : g.W.OwnedSink.failed l.caller.out ≡ g.W.OwnedSink.failed l.fn.caller.out;
}

abbrev pub decreases-rounds : goal.decreases-rounds
decreases-rounds g l = l.self.parts - l.first
