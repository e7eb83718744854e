-- The names that proofs share: of std, of the crates below, and of the definitions.
pub use Rattle.std.proofs.Common.{All, Err, List, None, Ok, Option, Result, Some, [], ap, append_assoc, arith, drop, if◌then◌else◌, length, min, not, rules, subst, suc, sym, take, vec_capacity, vec_items, vec_len, zero, ℕ, ◌&&◌, ◌*◌, ◌++◌, ◌+◌, ◌-◌, ◌<◌, ◌==◌, ◌∙◌, ◌≡◌, ◌≤◌}
pub use Rattle.std.{proofs.Math.Seq.take-add, proofs.lemmas.Grind.common_steps, proofs.lemmas.List.append-nil, proofs.lemmas.List.take-append-drop, specs.Io.KnownBytes.Appends, specs.Io.KnownBytes.Keeps, specs.List.concat}
pub use Rattle.rds_rows.specs.{Gathered.kept_in, Parts.first_parts, Parts.part_of, Rounds.parts_from, Sheets.size_of, Sheets.text_of, Writes.AppendsBut, Writes.AppendsPrefix}
