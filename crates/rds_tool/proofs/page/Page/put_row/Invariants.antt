use Rattle.rds_tool.proofs.Names.{◌*◌, ◌+◌, ◌++◌, ◌∷◌, ◌≡◌, ◌≤◌, [], length, take, flat_map}
use Rattle.rds_tool.proofs.page.Page.put_row.Given as goal

abbrev pub invariant-loop-i : goal.invariant-loop-i
invariant-loop-i l = record {
  text : l.self ≡ l.initial.self ++ flat_map (λ f. f.now ++ 44 ∷ []) (take l.i l.fields);
  room : length l.self ≤ length l.initial.self + l.i * 21;
}
