use Rattle.rds_tool.proofs.Names.{arith, common_steps, ◌≡◌, ◌++◌, ◌∙◌, List, ap, append_assoc, flat_map, flat_map-append, subst, sym, ℕ, Appends, Appends-trans, AppendsPrefix, Item, item_row}
use Rattle.rds_tool.proofs.{Passes.parted_rows, Passes.prefix_between, Passing.on_any_err}
use Rattle.rds_rows.specs.Sheets.{size_of}
use Rattle.rds_tool.specs.Inside.OnePass.{HasRoom}
use Rattle.std.specs.Prelude.{vec_capacity}
use Rattle.rds_tool.proofs.one_pass.OnePass.write_items.Goals as goal

pub parts-preserved : goal.parts-preserved
parts-preserved g c =
    let before = c.parts.invariant.done in
    let part : List Item = c.fill.new.part.items in
    let room = c.parts.invariant.room in
    record {
      done = record {
        done = before.done ++ part;
        parted = before.parted ∙ ap (λ (items : List Item). before.done ++ items) c.fill.ensures.items ∙ sym (append_assoc before.done part c.fill.new.self.items);
        written = subst (λ (rows : List ℕ). Appends (g.K.Sink.contents c.args.writer.now) (g.K.Sink.contents c.write_all.new.writer) rows) (sym (flat_map-append item_row before.done part))
            (Appends-trans _ _ _ _ _ before.written (subst (λ (rows : List ℕ). Appends (g.K.Sink.contents c.parts.writer) (g.K.Sink.contents c.write_all.new.writer) rows)
            (c.as_slice.ensures ∙ c.add_rows.ensures.rows) c.in_ok-write_all.ensures.ok));
        counted = c.add_rows.ensures.counted before.done before.counted;
      };
      end = c.fill.ensures.end ∙ c.parts.invariant.end;
      room = subst (λ (n : ℕ). HasRoom n (size_of c.add_rows.new.self.sheet)) (sym (ap (λ items. vec_capacity items) c.add_rows.ensures.items ∙ c.fill.ensures.room))
          (subst (λ (size : ℕ × ℕ). HasRoom (vec_capacity c.parts.self.items) size) (sym c.add_rows.ensures.size) room);
      count = c.in_ok-write_all.ensures.count ∙ c.parts.invariant.count;
    }

pub returns-in_err-write_all-clause-prefix : goal.returns-in_err-write_all-clause-prefix
returns-in_err-write_all-clause-prefix g c =
    let before = c.parts.invariant.done in
    let part : List Item = c.fill.new.part.items in
    on_any_err c.from_residual.result
    (subst (λ (text : List ℕ). AppendsPrefix (g.K.Sink.contents c.args.writer.now) (g.K.Sink.contents c.write_all.new.writer) text)
    (parted_rows c.args.decoder.now.items before.done c.parts.decoder.items part c.fill.new.self.items before.parted c.fill.ensures.items)
    (prefix_between _ _ _ _ _ (flat_map item_row c.fill.new.self.items) before.written
    (subst (λ (rows : List ℕ). AppendsPrefix (g.K.Sink.contents c.parts.writer) (g.K.Sink.contents c.write_all.new.writer) rows)
    (c.as_slice.ensures ∙ c.add_rows.ensures.rows) c.in_err-write_all.ensures.prefix)))

pub returns-then-is_empty-clause-ok : goal.returns-then-is_empty-clause-ok
returns-then-is_empty-clause-ok = grind (arith, common_steps)

pub returns-then-is_empty-clause-counted : goal.returns-then-is_empty-clause-counted
returns-then-is_empty-clause-counted = grind (arith, common_steps)

pub add_rows-requires-clause-few : goal.add_rows-requires-clause-few
add_rows-requires-clause-few = grind (arith, common_steps)

pub parts-smaller : goal.parts-smaller
parts-smaller = grind (arith, common_steps)
