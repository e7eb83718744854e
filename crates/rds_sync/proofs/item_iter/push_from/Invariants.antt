use Rattle.rds_sync.proofs.Names.{◌≡◌, ◌≤◌, ◌⊎◌, [], ◌++◌, All, length, vec_capacity, IsSpan, items_in}
use Rattle.rds_sync.proofs.item_iter.push_from.Given as goal

abbrev pub invariant-loop-rest : goal.invariant-loop-rest
invariant-loop-rest l = record {
  all : All (IsSpan l.recording l.rules) l.rest;
  items : l.fn.part.items ++ (l.fn.decoder.items ++ items_in l.recording l.rules l.spans) ≡ l.part.items ++ (l.decoder.items ++ items_in l.recording l.rules l.rest);
  full : (l.decoder.items ≡ []) ⊎ (length l.part.items ≡ l.most);
  most : length l.part.items ≤ l.most;
  room : vec_capacity l.part ≡ vec_capacity l.fn.part;
}

abbrev pub decreases-loop-rest : goal.decreases-loop-rest
decreases-loop-rest l = length l.rest
