-- Lists of items in little room.
use Rattle.rds_soft.proofs.Names.{◌≡◌, ◌++◌, ◌+◌, ◌-◌, ◌^◌, ◌<◌, cases_lt, inl, inr, le-ltb, lt-ltb, ◌∷◌, ◌∙◌, common_steps, ℕ, List, [], ap₂, arith, get_or_append_left, length, map-append, refl, take, append_assoc, All, All-head, All-tail, slice_index_or, SoftItem, SoftLostLock, Signal, Block, HardValid, Read, A, B, D, ℤ, InSoft, group_again, moved_again, get_or_push}
use Rattle.rds_soft.specs.{SoftLists.third_offset, SoftLists.valid_group, Inside.Lists.IsAmong, Inside.Lists.item_at, Inside.Lists.items_at, declared.soft_list.ValidGroup.ValidGroup}

-- one more of the others
item-stays : (others : List SoftItem) (item : SoftItem) (entry : ValidGroup) → IsAmong (length others) entry → item_at (others ++ item ∷ []) entry ≡ item_at others entry
item-stays others item entry among = elim (cases_lt entry.place (2 ^ 63)) [
  | inl early ↦ rw (lt-ltb entry.place (2 ^ 63) early) refl
  | inr late ↦ rw (le-ltb entry.place (2 ^ 63) late) (get_or_append_left others (item ∷ []) (SoftLostLock 0) (entry.place - 2 ^ 63) (among late))
]

pub items_stay : (others : List SoftItem) (item : SoftItem) (entries : List ValidGroup) → All (IsAmong (length others)) entries
    → items_at (others ++ item ∷ []) entries ≡ items_at others entries
items_stay others item [] among = refl
items_stay others item (entry ∷ entries) among =
    ap₂ (λ (x : SoftItem) (xs : List SoftItem). x ∷ xs) (item-stays others item entry (All-head (IsAmong (length others)) entry entries among))
    (items_stay others item entries (All-tail (IsAmong (length others)) entry entries among))

pub items_pushed : (others : List SoftItem) (item : SoftItem) (entries : List ValidGroup) (entry : ValidGroup) → entry.place ≡ 2 ^ 63 + length others → All (IsAmong (length others)) entries
    → items_at (others ++ item ∷ []) (entries ++ entry ∷ []) ≡ items_at others entries ++ item ∷ []
items_pushed others item entries entry at among =
    let number : entry.place - 2 ^ 63 ≡ length others = omega (arith, at) in
    map-append (item_at (others ++ item ∷ [])) entries (entry ∷ [])
    ∙ ap₂ (λ (xs : List SoftItem) (x : SoftItem). xs ++ x ∷ []) (items_stay others item entries among)
    (rw (le-ltb entry.place (2 ^ 63) (omega (arith, at)), number) (get_or_push others item (SoftLostLock 0) (length others) refl))

-- a group of four valid blocks stays as it is
pub valid_again : (b : Signal) (symbols : List ℤ) (margin place d : ℕ) (blocks : List Block) (one two three four : Block) (first second third fourth : ℕ)
    → blocks ≡ one ∷ two ∷ three ∷ four ∷ []
    → one ≡ Read (HardValid A first) → two ≡ Read (HardValid B second) → three ≡ Read (HardValid (third_offset second) third) → four ≡ Read (HardValid D fourth)
    → moved_again d (InSoft (group_again b symbols margin place blocks))
    ≡ InSoft (valid_group (record { place = place + d; words = first ∷ second ∷ third ∷ fourth ∷ [] }))
valid_again b symbols margin place d blocks one two three four first second third fourth are h i j k = rw (are, h, i, j, k) refl

-- one item more of those that are appended
pub one_appended : (first more whole : List SoftItem) (item : SoftItem) (i : ℕ) → whole ≡ first ++ take i more → i < length more
    → item ≡ slice_index_or more i item → whole ++ item ∷ [] ≡ first ++ take (i + 1) more
one_appended first more whole item i is inside at = grind (arith, common_steps, append_assoc)
