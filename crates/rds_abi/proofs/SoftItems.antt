-- The items of a stream are read again in a part of it as in the whole.
use Rattle.rds_abi.proofs.Shared.{common_steps, ◌≡◌, ℕ, ◌+◌, ◌-◌, List, [], ◌∷◌, arith, map, refl, Signal, Item, moved_item, moved_items, ℤ, Acquired, Group, LostLock, SoftItem, again_in, AllInside, AreSymbolsOf, ItemInside, again-same}
use Rattle.rds_soft.specs.{Inside.Streams.moved_again, ReadAgain.item_again}

module _ (part whole : Signal) (P W : List ℤ) (margin end d : ℕ) (are : AreSymbolsOf part P end whole W d) where
  -- an item of the part, read again by its place in the stream
  moved-there : (item : Item) → again_in part P d margin (moved_item d item) ≡ moved_again d (item_again part P margin item)
  unfolding item_again
  moved-there (Acquired a x) = refl
  moved-there (LostLock a) = refl
  moved-there (Group g) =
      let there : g.place + d - d ≡ g.place = omega arith in
      rw there refl

  item-same : (item : Item) → ItemInside end item → again_in part P d margin (moved_item d item) ≡ item_again whole W margin (moved_item d item)
  item-same item inside = grind (arith, common_steps, moved-there, again-same part whole P W margin end d are (item ∷ []))

  pub items-same : {A : Type 0} (f : SoftItem → A) (items : List Item) → AllInside end items
      → map (λ item. f (again_in part P d margin item)) (moved_items d items) ≡ map f (map (item_again whole W margin) (moved_items d items))
  items-same f [] inside = refl
  items-same f (item ∷ items) inside = grind (arith, common_steps, item-same item, items-same f items)
