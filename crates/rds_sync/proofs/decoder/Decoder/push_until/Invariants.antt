use Rattle.rds_sync.proofs.Names.{◌≡◌, ◌-◌, ◌++◌, ◌≤◌, length, vec_capacity}
use Rattle.rds_sync.proofs.decoder.Decoder.push_until.Given as goal

abbrev pub invariant-loop-self : goal.invariant-loop-self
invariant-loop-self l = record {
  items : l.initial.part.items ++ l.fn.self.items ≡ l.part.items ++ l.self.items;
  end : l.self.end ≡ l.fn.self.end;
  most : length l.part.items ≤ l.most;
  room : vec_capacity l.part ≡ vec_capacity l.initial.part;
}

abbrev pub decreases-loop-self : goal.decreases-loop-self
decreases-loop-self l = l.most - length l.part.items
