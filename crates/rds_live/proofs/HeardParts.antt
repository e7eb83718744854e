-- The windows heard in a part of a recording determine the results there: of acquiring, of groups, of a bit,
-- of a run.
use Rattle.rds_live.proofs.Names.{◌≡◌, ◌≢◌, ℕ, zero, suc, ◌+◌, ◌-◌, ◌*◌, ◌<◌, ◌≤◌, List, [], ◌∷◌, ◌++◌, Bool, true, false, eqb, Option, None, refl, sym, ap, ap₂, subst, ◌∙◌, arith, inl, inr, common_steps, ne_eqb, eq-eqb, cases_eq, cases_Bool, lt-ltb, le-ltb, nat_tests, map-append, list_any, range_with_len, nat_le, ◌&&◌, Offset, Wanted, after_bit, items_of_end, run, step, items_at, history_after_block, completed_group, lock_of, lock_after, IsPartHeard, moved_state, moved_item, moved_items}
use Rattle.rds_stream.specs.Recording.{Signal, heard, offset_heard, offset_at, length_of}
use Rattle.rds_sync.specs.{declared.state.State.State, declared.state.State.TheVariants.Searching, declared.state.State.TheVariants.Locked, declared.item.Item.Item, declared.item.Item.TheVariants.Group, Rules.RuleNumbers, Loss.IsLossRule, Loss.bad_after, Lawful.IsLawful, Acquiring.acquired, Acquiring.has_number, Acquiring.is_numbered, Groups.group, Groups.block_at, Groups.blocks_at, Ranges.farthest_reach, Laws.AcquisitionsAreLate, Laws.StepsAreLawful}

-- a test of each number of a range, by another that says the same there
any-alike : (p q : ℕ → Bool) (k n : ℕ) → ((j : ℕ) → k ≤ j → j < k + n → p j ≡ q j) → list_any p (range_with_len k n) ≡ list_any q (range_with_len k n)
any-alike p q k zero same = refl
any-alike p q k (suc n) same = grind (arith, common_steps, any-alike p q (k + 1) n (λ j low high. same j (omega arith) (omega arith)))

-- from place 25 on the offset is that of the window heard, and before there is none
off-heard : (b : Signal) (i : ℕ) → 25 ≤ i → offset_at b i ≡ offset_heard (heard b i)
unfolding offset_at
off-heard b i late = rw (le-ltb i 25 late, offset_at) refl

pub off-early : (b : Signal) (i : ℕ) → i < 25 → offset_at b i ≡ None
unfolding offset_at
off-early b i early = rw (lt-ltb i 25 early, offset_at) refl

-- acquiring, by the offsets of a place and of those before it
acquired-alike : (b c : Signal) (rules : RuleNumbers) (i j : ℕ) → offset_at b i ≡ offset_at c j
    → ((k : ℕ) → 1 ≤ k → k < 1 + rules.reach → offset_at b (i - 26 * k) ≡ offset_at c (j - 26 * k)) → acquired b rules i ≡ acquired c rules j
unfolding acquired
acquired-alike b c rules i j here behind = grind (arith, common_steps, any-alike)

module _ (whole part : Signal) (d from : ℕ) (h : IsPartHeard whole part d from) where
  -- the offset of a place
  off-late : (i : ℕ) → 25 ≤ i → i < length_of part → offset_at part i ≡ offset_at whole (i + d)
  off-late i late within = grind (arith, common_steps, off-heard)

  -- the offset of a place k blocks before one that a run reads
  off-behind : (i k : ℕ) → from ≤ i → i < length_of part → k ≤ 8 → offset_at part (i - 26 * k) ≡ offset_at whole (i + d - 26 * k)
  off-behind i k order within few = grind (arith, common_steps, off-early, off-late)

  off-here : (i : ℕ) → from ≤ i → i < length_of part → offset_at part i ≡ offset_at whole (i + d)
  off-here i order within =
      let here : i - 26 * 0 ≡ i = omega arith in
      let there : i + d - 26 * 0 ≡ i + d = omega arith in
      ap (λ (p : ℕ). offset_at part p) (sym here) ∙ off-behind i 0 order within (omega arith) ∙ ap (λ (p : ℕ). offset_at whole p) there

  module _ (rules : RuleNumbers) where
    acquired-moved : rules.reach ≤ farthest_reach → (i : ℕ) → from ≤ i → i < length_of part → acquired whole rules (i + d) ≡ acquired part rules i
    acquired-moved reach i order within = grind (arith, common_steps, acquired-alike, off-here, off-behind)

    number-moved : (i x : ℕ) → from ≤ i → i < length_of part → has_number whole (i + d) x ≡ has_number part i x
    unfolding has_number
    number-moved i x order within = ap (λ (o : Option Offset). is_numbered o x) (sym (off-here i order within))

    -- block y of a group
    block-moved : (f x p : ℕ) (wanted : Wanted) (y : ℕ) → 26 * (x - f) + 25 ≤ p → p < length_of part
        → block_at whole rules f x (p + d) wanted y ≡ block_at part rules f x p wanted y
    block-moved f x p wanted y room within = elim (cases_Bool (nat_le f y && nat_le y x)) [
      | inl read ↦
          let order : (f ≤ y) × (y ≤ x) = in_order f y x read in
          let place : p - 26 * (x - y) + d ≡ p + d - 26 * (x - y) = omega (arith, order) in
          let heard_is : heard whole (p + d - 26 * (x - y)) ≡ heard part (p - 26 * (x - y)) =
          ap (λ (i : ℕ). heard whole i) (sym place) ∙ sym (h.heard_same (p - 26 * (x - y)) (omega (arith, order)) (omega arith)) in
          rw (read, heard_is) refl
      | inr not_read ↦ rw (not_read) refl
    ] where
      in_order : (a b c : ℕ) → (nat_le a b && nat_le b c) ≡ true → (a ≤ b) × (b ≤ c)
      in_order a b c e = grind (arith, nat_tests)

    blocks-moved : (f x p : ℕ) → 26 * (x - f) + 25 ≤ p → p < length_of part → blocks_at whole rules f x (p + d) ≡ blocks_at part rules f x p
    blocks-moved f x p room within = grind (arith, common_steps, block-moved)

    group-moved : (f x p : ℕ) → 26 * (x - f) + 25 ≤ p → p < length_of part
        → Group (group whole rules f x (p + d)) ≡ moved_item d (Group (group part rules f x p))
    unfolding group
    group-moved f x p room within = grind (arith, common_steps, blocks-moved)

    locked-moved : (i x bad f : ℕ) → Locked (lock_after (i + d) x bad f) ≡ moved_state d (Locked (lock_after i x bad f))
    locked-moved i x bad f = grind (arith, common_steps)

    completed_group-moved : (f x i : ℕ) → 26 * (x - f) + 25 ≤ i → i < length_of part → completed_group whole rules f x (i + d) ≡ moved_items d (completed_group part rules f x i)
    completed_group-moved f x i room within = grind (arith, common_steps, group-moved)

    history_after_block-moved : (i x bad : ℕ) → from ≤ i → i < length_of part → history_after_block whole rules (i + d) x bad ≡ history_after_block part rules i x bad
    history_after_block-moved i x bad order within = ap (λ (good : Bool). bad_after rules.loss good bad) (number-moved i x order within)

    -- the state after a bit, and the items that it gives
    abbrev moved : State × List Item → State × List Item
    moved r = (moved_state d r.0, moved_items d r.1)

    module _ (reach : rules.reach ≤ farthest_reach) (late : AcquisitionsAreLate) (i : ℕ) (order : from ≤ i) (within : i < length_of part) where
      search-moved : after_bit whole rules (i + d) Searching ≡ moved (after_bit part rules i Searching)
      search-moved = grind (arith, common_steps, acquired-moved, locked-moved, completed_group-moved)

      due-moved : (x bad f : ℕ) → 26 * (x - f) + 25 ≤ i → after_bit whole rules (i + d) (Locked (lock_of (i + d) x bad f)) ≡ moved (after_bit part rules i (Locked (lock_of i x bad f)))
      due-moved x bad f room = grind (arith, common_steps, eq-eqb, history_after_block-moved, group-moved, locked-moved, completed_group-moved)

      bit-moved : (s : State) → IsLawful rules i s → after_bit whole rules (i + d) (moved_state d s) ≡ moved (after_bit part rules i s)
      bit-moved Searching lawful = search-moved
      bit-moved (Locked lock) lawful = elim (cases_eq lock.due i) [
        | inl now ↦
            subst (λ (p : ℕ). after_bit whole rules (i + d) (moved_state d (Locked (record lock { due = p }))) ≡ moved (after_bit part rules i (Locked (record lock { due = p }))))
            (sym now) (due-moved lock.number lock.bad lock.first (omega (arith, lawful.enough_bits)))
        | inr later ↦
            let there : lock.due + d ≢ i + d = λ e. later (omega arith) in
            rw (ne_eqb (lock.due + d) (i + d) there, ne_eqb lock.due i later, after_bit) refl
      ]

    module _ (reach : rules.reach ≤ farthest_reach) (late : AcquisitionsAreLate) (lawful_steps : StepsAreLawful) (loss : IsLossRule rules.loss) where
      pub run_moved : (s : State) (a bits : ℕ) → from ≤ a → a + bits ≤ length_of part → IsLawful rules a s
          → run whole rules (moved_state d s) (a + d) bits ≡ (moved_state d (run part rules s a bits).0, moved_items d (run part rules s a bits).1)
      run_moved s a zero order within lawful = refl
      run_moved s a (suc bits) order within lawful =
          let bit = bit-moved reach late a order (omega arith) s lawful in
          let here : step whole rules (a + d) (moved_state d s) ≡ moved_state d (step part rules a s) = ap (λ (r : State × List Item). r.0) bit in
          let found : items_at whole rules (a + d) (moved_state d s) ≡ moved_items d (items_at part rules a s) = ap (λ (r : State × List Item). r.1) bit in
          let next : a + d + 1 ≡ a + 1 + d = omega arith in
          let rest = run_moved (step part rules a s) (a + 1) bits (omega arith) (omega arith) (lawful_steps part rules loss a s lawful) in
          let more : run whole rules (step whole rules (a + d) (moved_state d s)) (a + d + 1) bits
          ≡ (moved_state d (run part rules (step part rules a s) (a + 1) bits).0, moved_items d (run part rules (step part rules a s) (a + 1) bits).1) =
          ap₂ (λ (t : State) (p : ℕ). run whole rules t p bits) here next ∙ rest in
          ap₂ (λ (is : List Item) (r : State × List Item). (r.0, is ++ r.1)) found more
          ∙ ap (λ (is : List Item). (moved_state d (run part rules (step part rules a s) (a + 1) bits).0, is))
          (sym (map-append (moved_item d) (items_at part rules a s) (run part rules (step part rules a s) (a + 1) bits).1))

-- the group in progress at the end
pub end-moved : (whole part : Signal) (rules : RuleNumbers) (d : ℕ) (s : State) → IsLawful rules (length_of part) s → IsPartHeard whole part d (length_of part)
    → items_of_end whole rules (moved_state d s) ≡ moved_items d (items_of_end part rules s)
end-moved whole part rules d Searching lawful h = refl
end-moved whole part rules d (Locked lock) lawful h = elim (cases_eq lock.number 1) [
  | inl between ↦ let e : eqb lock.number 1 ≡ true = eq-eqb lock.number 1 between in rw (e, items_of_end) refl
  | inr inside ↦
      let e : eqb lock.number 1 ≡ false = ne_eqb lock.number 1 inside in
      let room : 26 * (lock.number - 1 - lock.first) + 25 ≤ lock.due - 26 = (elim lawful.in_order [
        | inl first ↦ absurd (inside first.0)
        | inr later ↦ omega (arith, lawful.enough_bits, later)
      ]) in
      let place : lock.due + d - 26 ≡ lock.due - 26 + d = omega (arith, lawful.enough_bits) in
      let group_is = group-moved whole part d (length_of part) h rules lock.first (lock.number - 1) (lock.due - 26) room (omega (arith, lawful.soon, lawful.enough_bits)) in
      rw (e, items_of_end) (ap (λ (p : ℕ). Group (group whole rules lock.first (lock.number - 1) p) ∷ []) place ∙ ap (λ (item : Item). item ∷ []) group_is)
]
