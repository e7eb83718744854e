use Rattle.std.proofs.Common.{◌≡◌, Bor, List, map, string_bytes, take, ℕ}
use Rattle.rds.proofs.command_line.words_of.Given as goal

abbrev pub invariant-loop-word : goal.invariant-loop-word
invariant-loop-word l = map (λ (word : Bor (List ℕ)). word.now) l.words.items ≡ map string_bytes (take l.word-index l.given)
