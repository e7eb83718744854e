use Rattle.rds_tool.proofs.Names.{rules, tests, ◌≡◌, ◌==◌, ◌∙◌, ◌<◌, ◌++◌, ◌∷◌, [], ap, false, true, is_space}
use Rattle.rds_tool.proofs.{Encoding.after_blank, Encoding.after_digit, Encoding.after_feed, Encoding.after_long, group_lines.GroupLines.push_byte.Goals.in-32, group_lines.GroupLines.push_byte.Goals.in-10+in_ok-is_group-in-10, group_lines.GroupLines.push_byte.Goals.in_default, group_lines.GroupLines.push_byte.Goals.in_default-2}
use Rattle.rds_tool.proofs.group_lines.GroupLines.push_byte.Goals as goal

pub invariant_of-self-2 : goal.invariant_of-self-2
invariant_of-self-2 c =
    elim c.match-byte.branch [
      | in-32 w ↦ (let blank : is_space c.args.byte ≡ true = search (rules, tests) in
          rw w.self-inside-is (after_blank _ _ _ _ _ _ (c.note.ensures ∙ ap (λ s. s.text.bytes ++ c.args.byte ∷ []) w.self-inside-is) _ c.self.invariant blank))
      | in-10+in_ok-is_group-in-10 w ↦ (let feed : c.args.byte ≡ 10 = search (rules, tests) in
          rw w.self-inside-is (after_feed _ _ _ _ _ _ (c.note.ensures ∙ ap (λ s. s.text.bytes ++ c.args.byte ∷ []) w.self-inside-is) _ c.self.invariant feed
          w.in_ok-is_group-in-10.is_group w.push_line.new.groups.items w.in_ok-is_group-in-10.ensures.fine w.in_ok-is_group-in-10.ensures.faulty))
      | in_default w ↦ (let digit : is_space c.args.byte ≡ false = search (rules, tests) in
          let no_feed : c.args.byte == 10 ≡ false = search (rules, tests) in
          let free : c.self.inside.len < 16 = search (rules, tests) in
          rw w.self-inside-is (after_digit _ _ _ _ _ _ (c.note.ensures ∙ ap (λ s. s.text.bytes ++ c.args.byte ∷ []) w.self-inside-is) _ c.self.invariant digit no_feed free))
      | in_default-2 w ↦ (let digit : is_space c.args.byte ≡ false = search (rules, tests) in
          let no_feed : c.args.byte == 10 ≡ false = search (rules, tests) in
          let full : c.self.inside.len ≡ 16 = search (rules, tests) in
          rw w.self-inside-is (after_long _ _ _ _ _ _ (c.note.ensures ∙ ap (λ s. s.text.bytes ++ c.args.byte ∷ []) w.self-inside-is) _ c.self.invariant digit no_feed full))
    ]
