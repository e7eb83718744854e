use Rattle.rds_tool.proofs.Names.{◌++◌, ◌+◌, ◌-◌, ◌≡◌, drop, take, flat_map, left_of, size_of, text_of, group_text}
use Rattle.rds_tool.proofs.encode.GroupRowsRows.fill.Given as goal

abbrev pub invariant-loop-words : goal.invariant-loop-words
invariant-loop-words l = record {
  rows : text_of l.sheet ≡ text_of l.initial.sheet ++ flat_map (group_text l.self.hex) (take l.words-index (take (l.to - l.from) (drop l.from l.self.groups.now)));
  left : left_of l.sheet + l.words-index ≡ left_of l.initial.sheet;
  size : size_of l.sheet ≡ size_of l.initial.sheet;
}
