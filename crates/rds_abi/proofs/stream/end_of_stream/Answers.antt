use Rattle.rds_abi.proofs.Shared.{common_steps, ◌≡◌, ◌+◌, ◌*◌, ◌/◌, ◌%◌, ◌++◌, ◌∙◌, ℕ, List, ap, sym, ap₂, append_assoc, arith, drop, length, take, length-append, take-append-drop, Terms, complete, report_at, Item, group_item, totals_of}
use Rattle.rds_abi.proofs.stream.end_of_stream.Goals as goal

-- the whole bytes are taken first, and then the bits of the one that is left
same_end : (old new : Terms) (before bytes whole rest : List ℕ) (bits : ℕ) → new ≡ old → whole ≡ take (bits / 8) bytes → rest ≡ drop (bits / 8) bytes → length whole ≡ bits / 8
    → report_at new (before ++ whole ++ rest) (8 * length (before ++ whole) + bits % 8) ≡ report_at old (before ++ bytes) (8 * length before + bits)
same_end old new before bytes whole rest bits terms front back long = grind (arith, common_steps, append_assoc before whole rest, take-append-drop (bits / 8) bytes, length-append before whole)

pub returns-clause-items : goal.returns-clause-items
returns-clause-items c before h =
    let old = c.args.live.terms in
    let whole = c.split_at.result.0.now in
    let same = c.take_all.ensures.terms in
    let first = c.in_ok-items.items.items in
    let found = c.deref.result.now in
    let last = group_item c.in_ok-end.end.group in
    ap (λ (items : List Item). complete old before ++ items) c.in_ok-push_end.ensures
    ∙ sym (append_assoc (complete old before) (first ++ found) last)
    ∙ ap (λ (items : List Item). items ++ last) (sym (append_assoc (complete old before) first found))
    ∙ ap₂ (λ (items more : List Item). items ++ more ++ last) (sym (c.in_ok-items.ensures.items before h) ∙ ap (λ (t : Terms). complete t (before ++ whole)) (sym same)) c.deref.ensures.value
    ∙ c.in_ok-end.ensures.items (before ++ whole) (c.in_ok-items.ensures.heard before h)
    ∙ same_end old c.take_all.new.self.terms before c.args.bytes.now whole c.split_at.result.1.now c.args.bits same c.split_at.ensures.front c.split_at.ensures.back c.split_at.ensures.front_len

pub returns-clause-totals : goal.returns-clause-totals
returns-clause-totals c before h =
    let whole = c.split_at.result.0.now in
    c.in_ok-end.ensures.totals (before ++ whole) (c.in_ok-items.ensures.heard before h)
    ∙ ap (λ (items : List Item). totals_of items)
    (same_end c.args.live.terms c.take_all.new.self.terms before c.args.bytes.now whole c.split_at.result.1.now c.args.bits c.take_all.ensures.terms c.split_at.ensures.front c.split_at.ensures.back c.split_at.ensures.front_len)
