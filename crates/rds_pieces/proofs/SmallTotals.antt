-- The totals of a run's items are small: a bit gives one group at most, and a block has 26 bits.
use Rattle.rds_pieces.proofs.Names.{common_steps, ◌≡◌, ℕ, zero, suc, ◌+◌, ◌-◌, ◌*◌, ◌^◌, ◌<◌, ◌≤◌, Bool, true, false, List, [], ◌∷◌, ◌++◌, refl, sym, subst, arith, lit≤, inl, inr, cases_Bool, cases_eq, ones_le_self, Signal, State, Searching, Locked, Item, Acquired, GroupItem, LostLock, Totals, plus, TotalsJoin, IsAtMost, FitTogether, group, block_at, wanted_beside, RuleNumbers, are_too_many, run, step, items_at, history_after_block, totals_of, bits_corrected, sum_by, if◌then◌else◌, ◌==◌, Wanted, Either, Reading, Valid, Corrected, Lost, ReadsByRule, reading, IsReading, Block, Read, Group, items-searching, items-acquiring, items-waiting, items-keeping, items-losing}

pub at_most_more : (m n : ℕ) (t : Totals) → m ≤ n → IsAtMost m t → IsAtMost n t
at_most_more m n t h a = omega (arith, a)

at_most-plus : (m n : ℕ) (t u : Totals) → IsAtMost m t → IsAtMost n u → IsAtMost (m + n) (plus t u)
at_most-plus m n t u a b = omega (arith, a, b)

-- so small is what one bit gives
abbrev pub per_bit : ℕ
per_bit = 2 ^ 28 - 1

one_or_none : (t : Bool) → (if t then 1 else 0) ≤ 1
one_or_none t = grind (arith, common_steps)

sum_of_four : (f : Block → ℕ) (m : ℕ) (bs : List Block) (a b c d : Block) → bs ≡ a ∷ b ∷ c ∷ d ∷ [] → f a ≤ m → f b ≤ m → f c ≤ m → f d ≤ m → 0 + sum_by f bs ≤ 4 * m
sum_of_four f m bs a b c d e h i j k = subst (λ (xs : List Block). 0 + sum_by f xs ≤ 4 * m) (sym e) (omega arith)

-- a group of four blocks
group_at_most : (g : Group) (a b c d : Block) → g.blocks ≡ a ∷ b ∷ c ∷ d ∷ []
    → bits_corrected a < 2 ^ 26 → bits_corrected b < 2 ^ 26 → bits_corrected c < 2 ^ 26 → bits_corrected d < 2 ^ 26 → IsAtMost (2 ^ 28 - 4) (totals_of (GroupItem g ∷ []))
group_at_most g a b c d e h i j k = grind (arith, common_steps, sum_of_four, one_or_none)

-- items of no block
acquired_at_most : (i x : ℕ) → IsAtMost 1 (totals_of (Acquired i x ∷ []))
acquired_at_most i x = omega arith

lost_at_most : (i : ℕ) → IsAtMost 1 (totals_of (LostLock i ∷ []))
lost_at_most i = omega arith

none_at_most : (n : ℕ) → IsAtMost n (totals_of [])
none_at_most n = omega arith

-- a burst is inside a block
reading_small : ReadsByRule → (w x : ℕ) (wanted : Wanted) (limit : ℕ) → 1 ≤ x → x ≤ 4 → limit ≤ 5 → bits_corrected (Read (reading w x wanted limit)) < 2 ^ 26
reading_small law w x wanted limit low high few = at_case (reading w x wanted limit) ((law w x wanted limit (reading w x wanted limit) low high few).1 refl) where
  at_case : (r : Reading) → IsReading w x wanted limit r → bits_corrected (Read r) < 2 ^ 26
  at_case (Valid o info) h = omega arith
  at_case (Corrected o info e) h = let l = ones_le_self e in let b = h.1.fits.burst.is_block in omega (arith, l, b)
  at_case Lost h = omega arith

module _ (b : Signal) (rules : RuleNumbers) (law : ReadsByRule) (few : rules.burst ≤ 5) where
  block_small : (f x p : ℕ) (wanted : Wanted) (y : ℕ) → 1 ≤ y → y ≤ 4 → bits_corrected (block_at b rules f x p wanted y) < 2 ^ 26
  block_small f x p wanted y low high = grind (arith, common_steps, reading_small)

  closed_at_most : (f x p : ℕ) → IsAtMost (2 ^ 28 - 4) (totals_of (GroupItem (group b rules f x p) ∷ []))
  unfolding group
  closed_at_most f x p =
      let block = block_at b rules f x p in
      let second = block Either 2 in
      group_at_most (group b rules f x p) (block Either 1) second (block (wanted_beside second) 3) (block Either 4) refl
      (block_small f x p Either 1 (omega arith) (omega arith)) (block_small f x p Either 2 (omega arith) (omega arith))
      (block_small f x p (wanted_beside second) 3 (omega arith) (omega arith)) (block_small f x p Either 4 (omega arith) (omega arith))

  after_at_most : (f x i : ℕ) (t : Bool) → IsAtMost (2 ^ 28 - 4) (totals_of (elim t [ true ↦ GroupItem (group b rules f x i) ∷ [] | false ↦ [] ]))
  after_at_most f x i t = grind (arith, common_steps, closed_at_most, none_at_most)

  module _ (join : TotalsJoin) where
    both_at_most : (m n : ℕ) (xs ys : List Item) → IsAtMost m (totals_of xs) → IsAtMost n (totals_of ys) → IsAtMost (m + n) (totals_of (xs ++ ys))
    both_at_most m n xs ys h k = subst (λ (t : Totals). IsAtMost (m + n) t) (sym (join xs ys).joined) (at_most-plus m n (totals_of xs) (totals_of ys) h k)

    -- what one bit gives
    gives : {given : List Item} {items : List Item} → given ≡ items → IsAtMost per_bit (totals_of items) → IsAtMost per_bit (totals_of given)
    gives e small = subst (λ (is : List Item). IsAtMost per_bit (totals_of is)) (sym e) small

    bit_at_most : (i : ℕ) (s : State) → IsAtMost per_bit (totals_of (items_at b rules i s))
    bit_at_most i Searching = grind (arith, common_steps, gives, items-searching, none_at_most, items-acquiring, at_most_more, lit≤, both_at_most, acquired_at_most, after_at_most)
    bit_at_most i (Locked lock) = elim (cases_eq lock.due i) [
      | inr other ↦ gives (items-waiting b rules lock i other) (none_at_most per_bit)
      | inl here ↦ subst (λ (p : ℕ). IsAtMost per_bit (totals_of (items_at b rules p (Locked lock)))) here
          (elim (cases_Bool (are_too_many rules.loss (history_after_block b rules lock.due lock.number lock.bad))) [
            | inr few ↦ gives (items-keeping b rules lock few)
                (at_most_more (2 ^ 28 - 4) per_bit _ (lit≤ tt) (after_at_most lock.first lock.number lock.due (lock.number == 4)))
            | inl many ↦ gives (items-losing b rules lock many) (at_most_more (2 ^ 28 - 4 + 1) per_bit _ (lit≤ tt)
                (both_at_most (2 ^ 28 - 4) 1 (GroupItem (group b rules lock.first lock.number lock.due) ∷ []) (LostLock lock.due ∷ [])
                (closed_at_most lock.first lock.number lock.due) (lost_at_most lock.due)))
          ])
    ]

    -- what a run gives
    pub run_at_most : (s : State) (a n : ℕ) → IsAtMost (per_bit * n) (totals_of (run b rules s a n).1)
    run_at_most s a zero = none_at_most (per_bit * 0)
    run_at_most s a (suc n) = grind (arith, common_steps, at_most_more, both_at_most, bit_at_most, run_at_most (step b rules a s) (a + 1) n)

    -- the totals of two runs are small enough to be added
    pub totals_of_two : (s t : State) (a m p n : ℕ) → m + n ≤ 2 ^ 36 → (one other : Totals) → one ≡ totals_of (run b rules s a m).1 → other ≡ totals_of (run b rules t p n).1
        → FitTogether one other
    totals_of_two s t a m p n bits one other one_is other_is = grind (arith, common_steps, run_at_most)
