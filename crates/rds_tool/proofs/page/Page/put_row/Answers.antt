use Rattle.rds_tool.proofs.Names.{Bor, List, [], ap, append_assoc, arith, length, slice_index_or, suc, sym, take, ◌++◌, ◌-◌, ◌<◌, ◌∙◌, ◌∷◌, ◌≡◌, ◌≤◌, ℕ, flat_map, common_steps}
use Rattle.rds_tool.proofs.{RowText.row_short_now, RowText.text_short, Spelled.fields_after, Spelled.joined_last, Spelled.short_at}
use Rattle.rds_tool.proofs.page.Page.put_row.Goals as goal

abbrev none : Bor (List ℕ)
none = record { ref_ptr = (0, 0); now = [] }

pub loop-i-preserved : goal.loop-i-preserved
loop-i-preserved c =
    let within : c.loop-i.i < length c.args.fields.now = omega (arith, c.loop-i-test.true) in
    let field : length (slice_index_or c.args.fields.now c.loop-i.i none).now ≤ 20 = short_at c.args.fields.now c.loop-i.i none c.requires.short within in
    record {
      text = c.put_byte.ensures ∙ ap (λ t. t ++ 44 ∷ []) c.put_all.ensures ∙ fields_after c.args.fields.now c.loop-i.i none c.args.self.now c.loop-i.self within c.loop-i.invariant.text;
      room = grind (arith, common_steps, c.put_byte.ensures, c.put_all.ensures, field, c.loop-i.invariant.room);
    }

pub returns-clause-text : goal.returns-clause-text
returns-clause-text c =
    let fields = c.args.fields.now in
    let old = c.args.self.now in
    let n = length fields - 1 in
    let commas = λ (k : ℕ). flat_map (λ (f : Bor (List ℕ)). f.now ++ 44 ∷ []) (take k fields) in
    let last = (slice_index_or fields n none).now in
    let at : c.loop-i.i ≡ n = omega (arith, c.loop-i-test.false, c.loop-i.auto.i-end) in
    let long : length fields ≡ suc n = omega (arith, c.requires.several) in
    let front = c.loop-i.invariant.text ∙ ap (λ k. old ++ commas k) at in
    c.put_byte-2.ensures
    ∙ ap (λ t. t ++ 10 ∷ []) (c.put_all-2.ensures ∙ ap (λ t. t ++ last) front ∙ append_assoc old (commas n) last)
    ∙ append_assoc old (commas n ++ last) (10 ∷ [])
    ∙ ap (λ t. old ++ (t ++ 10 ∷ [])) (sym (joined_last fields n none long))

pub returns-clause-short : goal.returns-clause-short
returns-clause-short c =
    text_short _ _ _ (returns-clause-text c) (row_short_now c.args.fields.now c.requires.several c.requires.few c.requires.short)
