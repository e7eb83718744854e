use Rattle.rds_abi.proofs.Shared.{common_steps, ◌≡◌, ◌++◌, ◌+◌, ◌^◌, ◌<◌, ◌∷◌, ◌∙◌, ℕ, List, ap, append_assoc, arith, length, map, rules, set, subst, sym, take, take-set_at, All, slice_set, Item, moved_item, moved_items, place_of, item_in_c, RdsItem}
use Rattle.rds_live.proofs.Moves.{still-left}
use Rattle.std.proofs.lemmas.List.Elements.{All-tail}
use Rattle.rds_abi.proofs.ranges.fill_run.Goals as goal

-- the elements written before the rest
before_rest : {B : Type 0} (room : List B) (i : ℕ) (y : B) (rest : List B) → i < length room → take (i + 1) (set room i y) ++ rest ≡ take i room ++ y ∷ rest
before_rest room i y rest fits = grind (arith, common_steps, take-set_at, append_assoc)

pub loop-item-preserved : goal.loop-item-preserved
loop-item-preserved c =
    let l = c.loop-item in
    let by = c.args.by in
    let item = c.in-Some.item in
    let rest = c.next.new.self.items in
    let next : l.item-iterator.items ≡ item ∷ rest = search rules in
    let fits : l.at < length l.room = omega (arith, ap (λ (items : List Item). length items) next, l.invariant.count, l.invariant.same, c.requires.fits) in
    record {
      written = ap (λ (y : RdsItem). take (l.at + 1) (slice_set l.room l.at y) ++ map item_in_c (moved_items by rest)) c.moved_in_c.ensures
          ∙ before_rest l.room l.at (item_in_c (moved_item by item)) (map item_in_c (moved_items by rest)) fits
          ∙ ap (λ (items : List Item). take l.at l.room ++ map item_in_c (moved_items by items)) (sym next) ∙ l.invariant.written;
      kept = still-left c.args.room.now l.room l.at c.moved_in_c.result l.invariant.kept;
      same = search rules;
      count = omega (arith, ap (λ (items : List Item). length items) next, l.invariant.count);
      early = All-tail (λ (it : Item). place_of it < 2 ^ 36) item rest (subst (λ (items : List Item). All (λ (it : Item). place_of it < 2 ^ 36) items) next l.invariant.early);
    }
