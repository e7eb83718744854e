-- The groups of a run end inside the part that the run is over, so they are read again there as in the whole.
use Rattle.rds_sync.specs.{Groups.block_at, Groups.wanted_beside as hard_beside, Loss.IsLossRule}
use Rattle.rds_soft.proofs.Names.{common_steps, ◌≡◌, ℕ, zero, suc, ◌+◌, ◌-◌, ◌*◌, ◌<◌, ◌≤◌, ◌∙◌, List, [], ◌∷◌, ◌++◌, Option, ap, ap₂, arith, map, refl, subst, ⊤, ℤ, eq-eqb, eqb-true, false≢true, Wanted, Either, Signal, State, Searching, Locked, Block, Item, Acquired, Group, LostLock, block_in, group, AreInOrder, IsLawful, AcquisitionsAreLate, StepsAreLawful, RuleNumbers, completed_group, items_at, items_of_end, run, step, moved_item, moved_items, InSoft, first_bit, symbols_heard, was_read, block_again, group_again, item_again, wanted_beside, moved_again, ◌⊎◌}

-- ---- where blocks end

-- block y of these, if it was read, ends before this place
abbrev Ends : ℕ → ℕ → List Block → ℕ → Type 0
Ends end place blocks y = was_read (block_in blocks y) ≡ 1 → first_bit place blocks y + 25 < end

pub record IsInside (end place : ℕ) (blocks : List Block) : Type 0 where
  pub one : Ends end place blocks 1
  pub two : Ends end place blocks 2
  pub three : Ends end place blocks 3
  pub four : Ends end place blocks 4

abbrev pub ItemInside : ℕ → Item → Type 0
ItemInside end (Acquired a x) = ⊤
ItemInside end (LostLock a) = ⊤
ItemInside end (Group g) = IsInside end g.place g.blocks

abbrev pub AllInside : ℕ → List Item → Type 0
AllInside end [] = ⊤
AllInside end (item ∷ items) = ItemInside end item × AllInside end items

-- a later end
later-item : (end more : ℕ) (item : Item) → end ≤ more → ItemInside end item → ItemInside more item
later-item end more item order h = grind (arith, common_steps)

later : (end more : ℕ) (items : List Item) → end ≤ more → AllInside end items → AllInside more items
later end more [] order h = tt
later end more (item ∷ items) order h = (later-item end more item order h.0, later end more items order h.1)

both : (end : ℕ) (xs ys : List Item) → AllInside end xs → AllInside end ys → AllInside end (xs ++ ys)
both end [] ys h k = k
both end (x ∷ xs) ys h k = (h.0, both end xs ys h.1 k)

-- ---- the groups of a run

module _ (b : Signal) (rules : RuleNumbers) (i : ℕ) where
  -- a block of a group was read only if it is one of those from f to x
  was-read : (f x : ℕ) (wanted : Wanted) (n : ℕ)
      → (was_read (block_at b rules f x i wanted n) ≡ 0) ⊎ ((was_read (block_at b rules f x i wanted n) ≡ 1) × (f ≤ n) × (n ≤ x))
  was-read f x wanted n = grind (arith, common_steps)

  group-inside : (f x : ℕ) → 1 ≤ f → f ≤ x → x ≤ 4 → 26 * (x - f) + 25 ≤ i → ItemInside (i + 1) (Group (group b rules f x i))
  unfolding group
  group-inside f x low order high room =
      let first = was-read f x Either 1 in
      let second = was-read f x Either 2 in
      let third = was-read f x (hard_beside (block_at b rules f x i Either 2)) 3 in
      let fourth = was-read f x Either 4 in
      record {
        one = λ read. omega (arith, room);
        two = λ read. grind (arith, room, high, first, second, read);
        three = λ read. grind (arith, room, high, first, second, third, read);
        four = λ read. grind (arith, room, high, first, second, third, fourth, read);
      }

  completed-inside : (f x : ℕ) → 1 ≤ f → f ≤ x → x ≤ 4 → 26 * (x - f) + 25 ≤ i → AllInside (i + 1) (completed_group b rules f x i)
  completed-inside f x low order high room = grind (arith, common_steps, group-inside)

  ordered : (f x : ℕ) → AreInOrder f x → (1 ≤ f) × (f ≤ x) × (x ≤ 4)
  ordered f x h = grind (arith, common_steps)

  bit-inside : AcquisitionsAreLate → (s : State) → IsLawful rules i s → AllInside (i + 1) (items_at b rules i s)
  bit-inside late Searching lawful = grind (arith, common_steps, completed-inside, late b rules i)
  bit-inside late (Locked lock) lawful = grind (arith, common_steps, eqb-true, ordered, completed-inside, group-inside)

pub run-inside : AcquisitionsAreLate → StepsAreLawful → (b : Signal) (rules : RuleNumbers) → IsLossRule rules.loss
    → (s : State) (a bits : ℕ) → IsLawful rules a s → AllInside (a + bits) (run b rules s a bits).1
run-inside late steps b rules loss s a zero lawful = tt
run-inside late steps b rules loss s a (suc bits) lawful =
    let end : a + 1 + bits ≡ a + suc bits = omega arith in
    both (a + suc bits) (items_at b rules a s) (run b rules (step b rules a s) (a + 1) bits).1
    (later (a + 1) (a + suc bits) (items_at b rules a s) (omega arith) (bit-inside b rules a late s lawful))
    (subst (λ (e : ℕ). AllInside e (run b rules (step b rules a s) (a + 1) bits).1) end
    (run-inside late steps b rules loss (step b rules a s) (a + 1) bits (steps b rules loss a s lawful)))

-- the group in progress at the end
pub end-inside : (b : Signal) (rules : RuleNumbers) (i : ℕ) (s : State) → IsLawful rules i s → AllInside i (items_of_end b rules s)
end-inside b rules i s lawful = grind (arith, common_steps, false≢true, eq-eqb, later-item, group-inside)

-- ---- read again

-- the symbols of blocks inside the part are those of the whole, d places further
abbrev pub AreSymbolsOf : Signal → List ℤ → ℕ → Signal → List ℤ → ℕ → Type 0
AreSymbolsOf part P end whole W d = (first : ℕ) → first + 25 < end → symbols_heard part P first ≡ symbols_heard whole W (first + d)

-- a block whose symbols count only if it was read
same-block : (heard other : Option (List ℤ)) (x : ℕ) (wanted : Wanted) (margin : ℕ) (block : Block) → (was_read block ≡ 1 → heard ≡ other)
    → block_again heard x wanted margin block ≡ block_again other x wanted margin block
same-block heard other x wanted margin block same = grind (arith, common_steps)

module _ (part whole : Signal) (P W : List ℤ) (margin end d : ℕ) (are : AreSymbolsOf part P end whole W d) where
  block-same : (place : ℕ) (blocks : List Block) (y x : ℕ) (wanted : Wanted) → Ends end place blocks y
      → block_again (symbols_heard part P (first_bit place blocks y)) x wanted margin (block_in blocks y)
      ≡ block_again (symbols_heard whole W (first_bit (place + d) blocks y)) x wanted margin (block_in blocks y)
  block-same place blocks y x wanted ends =
      same-block (symbols_heard part P (first_bit place blocks y)) (symbols_heard whole W (first_bit (place + d) blocks y)) x wanted margin
      (block_in blocks y) (λ read. are (first_bit place blocks y) (ends read) ∙ ap (λ (p : ℕ). symbols_heard whole W p) there) where
        there : first_bit place blocks y + d ≡ first_bit (place + d) blocks y
        there = omega arith

  group-same : (place : ℕ) (blocks : List Block) → IsInside end place blocks
      → InSoft (record (group_again part P margin place blocks) { place = place + d }) ≡ InSoft (group_again whole W margin (place + d) blocks)
  group-same place blocks inside =
      let one = block-same place blocks 1 1 Either inside.one in
      let two = block-same place blocks 2 2 Either inside.two in
      let three = block-same place blocks 3 3 (wanted_beside (block_again (symbols_heard part P (first_bit place blocks 2)) 2 Either margin (block_in blocks 2))) inside.three in
      let four = block-same place blocks 4 4 Either inside.four in
      rw (one, three, four, two) refl

  item-same : (item : Item) → ItemInside end item → moved_again d (item_again part P margin item) ≡ item_again whole W margin (moved_item d item)
  unfolding item_again
  item-same (Acquired a x) inside = refl
  item-same (LostLock a) inside = refl
  item-same (Group g) inside = group-same g.place g.blocks inside

  pub items-same : (items : List Item) → AllInside end items
      → map (λ item. moved_again d (item_again part P margin item)) items ≡ map (item_again whole W margin) (moved_items d items)
  items-same [] inside = refl
  items-same (item ∷ items) inside = ap₂ (λ x xs. x ∷ xs) (item-same item inside.0) (items-same items inside.1)
