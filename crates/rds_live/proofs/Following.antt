-- A decoder of a stream after further bytes.
use Rattle.rds_live.proofs.Names.{common_steps, ◌≡◌, ℕ, ◌+◌, ◌-◌, ◌*◌, ◌/◌, ◌≤◌, ◌⊎◌, List, [], ◌∷◌, ◌++◌, length, drop, min, refl, sym, ap, ap₂, ◌∙◌, arith, length-drop, length-append, drop-append-le, drop-drop, State, Item, RuleNumbers, IsLawful, Totals, IsAtMost, TotalsJoin, totals_of, moved_state, moved_item, moved_items, most_behind, most_kept}

-- moved by nothing
pub still-state : (s : State) → moved_state 0 s ≡ s
still-state s = grind (arith, common_steps)

still-item : (item : Item) → moved_item 0 item ≡ item
still-item item = grind (arith, common_steps)

pub still-items : (items : List Item) → moved_items 0 items ≡ items
still-items [] = refl
still-items (item ∷ items) = ap₂ (λ (x : Item) (xs : List Item). x ∷ xs) (still-item item) (still-items items)

-- totals do not depend on places
one-moved : (d : ℕ) (item : Item) → totals_of (moved_item d item ∷ []) ≡ totals_of (item ∷ [])
one-moved d item = grind (arith, common_steps)

pub totals-moved : TotalsJoin → (d : ℕ) (items : List Item) → totals_of (moved_items d items) ≡ totals_of items
totals-moved join d [] = refl
totals-moved join d (item ∷ items) = grind (arith, common_steps, one-moved, totals-moved join d items)

-- moved back into a part that begins before the group in progress, a lawful state is lawful
pub lawful-back : (rules : RuleNumbers) (d from place : ℕ) (s t : State) → moved_state d s ≡ t → IsLawful rules place t → from + d ≡ place → (d ≡ 0) ⊎ (most_behind ≤ from)
    → IsLawful rules from s
lawful-back rules d from place s t is h there early = grind (arith, common_steps)

-- and moved on, at a place so much further
pub lawful-on : (rules : RuleNumbers) (d from place : ℕ) (s t : State) → t ≡ moved_state d s → IsLawful rules from s → from + d ≡ place → IsLawful rules place t
lawful-on rules d from place s t is h there = grind (arith, common_steps)

-- the part that is kept of a stream begins at its first bit or before any group in progress
module _ (tail : List ℕ) (place from : ℕ) (kept : length tail ≡ min most_kept (place / 8)) (whole : place ≡ 8 * (place / 8)) (from_is : from ≡ 8 * length tail) where
  pub early-or-long : (place - from ≡ 0) ⊎ (most_behind ≤ from)
  early-or-long = grind (arith, common_steps)

  -- and the state in it
  pub state_in_part : (rules : RuleNumbers) (local state : State) → moved_state (place - from) local ≡ state → IsLawful rules place state → IsLawful rules from local
  state_in_part rules local state is lawful = lawful-back rules (place - from) from place local state is lawful (omega (arith, whole, kept, from_is)) early-or-long

-- counts that are at most a number are at most a greater one
pub at-most-more : (m n : ℕ) (totals : Totals) → m ≤ n → IsAtMost m totals → IsAtMost n totals
at-most-more m n totals more few = grind (arith, common_steps)

-- the last ones of all are the last of the last ones and those that follow
pub last-ones : (most : ℕ) (bytes more : List ℕ) → let kept : List ℕ = drop (length bytes - most) bytes in
    drop (length (kept ++ more) - most) (kept ++ more) ≡ drop (length (bytes ++ more) - most) (bytes ++ more)
last-ones most bytes more =
    let k : ℕ = length bytes - most in
    let is : drop k (bytes ++ more) ≡ drop k bytes ++ more = drop-append-le k bytes more (omega arith) in
    let left : k + (length (drop k bytes ++ more) - most) ≡ length (bytes ++ more) - most =
    omega (arith, length-append bytes more, length-append (drop k bytes) more, length-drop k bytes) in
    ap (drop (length (drop k bytes ++ more) - most)) (sym is) ∙ drop-drop (length (drop k bytes ++ more) - most) k (bytes ++ more) ∙ ap (λ (n : ℕ). drop n (bytes ++ more)) left
