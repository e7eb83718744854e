use Rattle.rds_tool.proofs.Names.{◌*◌, ◌+◌, ◌-◌, ◌<◌, ◌≤◌, ◌≡◌, ◌++◌, ◌∙◌, ℕ, List, length, None, Some, ap, append_assoc, arith, subst, sym, length-map-range_with_len, Offset, left_of, size_of, text_of, Sheet, Signal, length_of, offset_at, valid_at, GivesFirst, NoneValid, WindowsLeft, row_where, window_row}
use Rattle.rds_tool.proofs.{ScanRows.found_more, ScanRows.none_more, ScanRows.so_far, window_rows.WindowRowsRows.fill.Invariants.HasFilled}
use Rattle.rds_tool.proofs.window_rows.WindowRowsRows.fill.Goals as goal

module _ (b : Signal) (from to : ℕ) (left : WindowsLeft) (count : ℕ) (page : List ℕ) (old now : Sheet) (has : HasFilled b from to left count page old now) where
  -- up to a place before which no other window is valid
  up_to : (p : ℕ) → left.next ≤ p → p ≤ to → NoneValid left.signal left.next p → text_of now ++ page ≡ text_of old ++ so_far b from p
  up_to p low high none =
      let end : left.next + (p - left.next) ≡ p = omega (arith, low) in
      let here : NoneValid b left.next p = subst (λ (bits : Signal). NoneValid bits left.next p) has.bits none in
      has.rows ∙ ap (λ t. text_of old ++ t)
      (sym (none_more b from left.next (p - left.next) has.from_on (omega (arith, low, high, has.inside)) (λ i l h. here i l (omega (arith, h, low)))) ∙ ap (so_far b from) end)

  one_more : (found : ℕ × Offset) (rest : WindowsLeft) → GivesFirst left (Some found) rest → (kept : ℕ) (moved page' : List ℕ) (new : Sheet)
      → text_of new ++ moved ≡ text_of now ++ page → kept ≤ count → length moved ≤ kept * 32 → left_of new + count ≡ left_of now + kept → size_of new ≡ size_of now
      → page' ≡ moved ++ window_row found → length page' ≤ length moved + 32 → HasFilled b from to rest (kept + 1) page' old new
  one_more found rest gives kept moved page' new same fewer short left_over size added longer =
      let inside : found.0 < to = omega (arith, gives.1, has.end) in
      let here : offset_at b found.0 ≡ Some found.1 = subst (λ (bits : Signal). offset_at bits found.0 ≡ Some found.1) has.bits gives.3 in
      subst (λ (r : WindowsLeft). HasFilled b from to r (kept + 1) page' old new) (sym gives.4) (record {
        bits = has.bits;
        end = has.end;
        from_on = omega (arith, has.from_on, gives.0);
        limit = omega (arith, inside);
        inside = has.inside;
        rows = ap (λ t. text_of new ++ t) added ∙ sym (append_assoc (text_of new) moved (window_row found))
            ∙ ap (λ t. t ++ window_row found) (same ∙ up_to found.0 gives.0 (omega (arith, inside)) gives.2)
            ∙ append_assoc (text_of old) (so_far b from found.0) (window_row found)
            ∙ ap (λ t. text_of old ++ t) (sym (found_more b from found.0 found.1 (omega (arith, has.from_on, gives.0)) (omega (arith, inside, has.inside)) here));
        room = omega (arith, has.room, left_over, gives.0, inside);
        few = omega (arith, has.few, fewer, gives.0);
        short = omega (arith, short, longer);
        size = size ∙ has.size;
      })

  all : (rest : WindowsLeft) → GivesFirst left None rest → text_of now ++ page ≡ text_of old ++ so_far b from to
  all rest gives = up_to left.end (omega (arith, has.limit, has.end)) (omega (arith, has.end)) gives.0 ∙ ap (λ p. text_of old ++ so_far b from p) has.end

pub new-window-items-requires-clause-end : goal.new-window-items-requires-clause-end
new-window-items-requires-clause-end c =
    let b = c.args.self.now.recording.now in
    omega (arith, c.requires.inside, length-map-range_with_len (λ i. row_where (valid_at b i)) 0 (length_of b))

pub loop-window-preserved : goal.loop-window-preserved
loop-window-preserved c =
    let moved = c.left_after_moving-count.ensures in
    let longest : (size_of c.loop-window.sheet).1 ≡ 32 = ap (λ (s : ℕ × ℕ). s.1) c.loop-window.invariant.2.size ∙ c.requires.longest in (
      tt,
      tt,
      one_more c.args.self.now.recording.now c.args.from c.args.to c.loop-window.window-iterator c.loop-window.count c.loop-window.page c.args.sheet.now c.loop-window.sheet
          c.loop-window.invariant.2 c.in-Some.window c.next.new.self c.in-Some.ensures.steps c.left_after_moving-count.result c.left_after_moving-count.new.page c.push_window.new.self
          c.left_after_moving-count.new.sheet moved.text moved.fewer (subst (λ (n : ℕ). length c.left_after_moving-count.new.page ≤ c.left_after_moving-count.result * n) longest moved.short) moved.left moved.size
          c.push_window.ensures.text c.push_window.ensures.short,
    )

pub returns-clause-rows : goal.returns-clause-rows
returns-clause-rows c =
    c.push_all.ensures.text ∙ ap (λ t. text_of c.loop-window.sheet ++ t) c.as_bytes.ensures.value
    ∙ all c.args.self.now.recording.now c.args.from c.args.to c.loop-window.window-iterator c.loop-window.count c.loop-window.page c.args.sheet.now c.loop-window.sheet c.loop-window.invariant.2
    c.next.new.self c.in-None.ensures.steps
