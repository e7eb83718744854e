-- A longer recording that begins with another one: the run over the bits of both is one, and the group at the end goes on.
use Rattle.rds_sync.proofs.Names.{common_steps, ◌≡◌, ◌≢◌, ℕ, zero, suc, ◌+◌, ◌-◌, ◌*◌, ◌%◌, ◌<◌, ◌≤◌, ◌⊎◌, List, [], ◌∷◌, ◌++◌, length, drop, map, Bool, true, false, cond, Option, Some, None, refl, sym, ap, ap₂, subst, ◌∙◌, arith, inl, inr, append_assoc, length-append, ◌||◌, nat_le, nat_lt, if◌then◌else◌, filter, slice_get, slice_index, sum_by, list_any, range_with_len, number_from_digits, cases_Bool, cases_eq, cases_lt, lt-ltb, le-ltb, lt-leb, eq-eqb, ne_eqb, drop-append-le, take-append-le, take-append-drop, length-take, length-drop, sum_by-append, sum_by-cons, get_or_from_slice_get, Offset, Wanted, number, Signal, length_of, window, is_touched_by, touched, heard, offset_heard, reading_heard, offset_at, Block, Missing, GroupOf, Item, Acquired, Group, LostLock, Lock, State, Searching, Locked, acquired, has_number, has_partner, with_partner, is_in_step, is_numbered, block_at, blocks_at, group, group_of, wanted_beside, IsLawful, IsLawfulLock, IsLossRule, are_too_many, report_items, RuleNumbers, run, step, items_at, items_of_end, history_after_block, lock_after, lock_of, totals_of, sum_blocks, count_blocks, is_valid, is_lost, is_corrected_by, bits_corrected, is_group, is_complete, is_acquired, is_sync_loss, min}
use Rattle.rds_sync.{specs.Longer.BeginsWith, specs.Longer.BeginningsBegin, specs.Longer.GoesOn, specs.Longer.EndGoesOn, specs.Longer.OnlyAddsItems, specs.Longer.LongerRecordingsAddItems, specs.Longer.AreNoLess, specs.Longer.TotalsOnlyGrow, proofs.GroupBlocks.block_at-missing, proofs.RunLemmas.lawful-run, proofs.RunLemmas.lawful-due, proofs.RunLemmas.lawful-numbers, proofs.RunLemmas.run-append, proofs.RunLemmas.run_waiting, proofs.RunLemmas.run-reading, proofs.RunLemmas.step-keeping, proofs.RunLemmas.items-keeping, proofs.RunLemmas.items-losing, proofs.RunIsReport.run_is_report}

-- ---- the windows heard

window-begin : (bits more : List ℕ) (i : ℕ) → i < length bits → window (bits ++ more) i ≡ window bits i
unfolding window
window-begin bits more i within = grind (arith, common_steps, drop-append-le, number_from_digits, take-append-le, length-drop)

-- a test of each number of a range, by another that says the same there
any-alike : (p q : ℕ → Bool) (k n : ℕ) → ((j : ℕ) → p j ≡ q j) → list_any p (range_with_len k n) ≡ list_any q (range_with_len k n)
any-alike p q k zero same = refl
any-alike p q k (suc n) same = ap₂ ◌||◌ (same k) (any-alike p q (k + 1) n same)

module _ (longer shorter : Signal) (begins : BeginsWith longer shorter) where
  heard-alike : (i : ℕ) → i < length_of shorter → heard longer i ≡ heard shorter i
  unfolding heard
  heard-alike i within = grind (arith, common_steps, window, window-begin)

  off-alike : (i : ℕ) → i < length_of shorter → offset_at longer i ≡ offset_at shorter i
  unfolding offset_at
  off-alike i within = ap (λ (h : Option ℕ). elim (nat_lt i 25) as (λ _. Option Offset) [ true ↦ None | false ↦ offset_heard h ]) (heard-alike i within)

  number-alike : (i x : ℕ) → i < length_of shorter → has_number longer i x ≡ has_number shorter i x
  unfolding has_number
  number-alike i x within = ap (λ (o : Option Offset). is_numbered o x) (off-alike i within)

  module _ (rules : RuleNumbers) where
    acquired-alike : (i : ℕ) → i < length_of shorter → acquired longer rules i ≡ acquired shorter rules i
    unfolding acquired
    acquired-alike i within = grind (arith, common_steps, has_partner, any-alike, is_in_step, off-alike, with_partner, number, offset_at)

    -- ---- a group

    group-alike : (f x p : ℕ) → p < length_of shorter → group longer rules f x p ≡ group shorter rules f x p
    unfolding group
    group-alike f x p within = grind (arith, common_steps, block_at, wanted_beside, group_of, nat_le, reading_heard, heard-alike)

    -- ---- the run

    pub run-alike : (s : State) (a m : ℕ) → a + m ≤ length_of shorter → run longer rules s a m ≡ run shorter rules s a m
    run-alike s a zero fits = refl
    run-alike s a (suc m) fits = grind (arith, common_steps, run, items_at, step, run-alike (step shorter rules a s) (a + 1) m (omega (arith, fits)), acquired-alike, number-alike, group-alike)

-- ---- the group in progress

module _ (b : Signal) (rules : RuleNumbers) where
  -- the items begin with a group of these first blocks, of which the last ends at place p, and perhaps more
  record Opens (f x p : ℕ) (items : List Item) : Type 0 where
    y : ℕ
    rest : List Item
    order : (x ≤ y) × (y ≤ 4)
    is : items ≡ Group (group b rules f y (p + 26 * (y - x))) ∷ rest

  -- the items of a lock from inside a group on, to the end of the recording
  abbrev to_end : State → ℕ → ℕ → List Item
  to_end s place m = (run b rules s place m).1 ++ items_of_end b rules (run b rules s place m).0

  -- after the block that is due
  to_end-due : (lock : Lock) (place m : ℕ) → place ≤ lock.due → lock.due < place + m
      → to_end (Locked lock) place m ≡ items_at b rules lock.due (Locked lock) ++ to_end (step b rules lock.due (Locked lock)) (lock.due + 1) (place + m - (lock.due + 1))
  to_end-due lock place m soon within =
      let n : ℕ = lock.due - place in
      let k : ℕ = place + m - (lock.due + 1) in
      let bits : m ≡ (n + 1) + k = omega (arith, soon, within) in
      let next : place + (n + 1) ≡ lock.due + 1 = omega (arith, soon) in
      let first = run-reading b rules lock place n (omega (arith, soon)) in
      let whole : run b rules (Locked lock) place m
      ≡ ((run b rules (step b rules lock.due (Locked lock)) (lock.due + 1) k).0, items_at b rules lock.due (Locked lock) ++ (run b rules (step b rules lock.due (Locked lock)) (lock.due + 1) k).1) =
      ap (λ (l : ℕ). run b rules (Locked lock) place l) bits
      ∙ run-append b rules (Locked lock) place (n + 1) k
      ∙ ap₂ (λ (r : State × List Item) (q : ℕ). ((run b rules r.0 q k).0, r.1 ++ (run b rules r.0 q k).1)) first next in
      grind (arith, common_steps, items_of_end, whole, append_assoc, items_at, lock.due, run, step, k)

  -- one block more
  one_on : (f x p : ℕ) (items : List Item) → 1 ≤ x → Opens f x p items → (q : ℕ) → q + 26 ≡ p → Opens f (x - 1) q items
  one_on f x p items some o q at = grind (arith, common_steps, group)

  module _ (loss : IsLossRule rules.loss) where
    opens : (k : ℕ) (lock : Lock) (place m : ℕ) → IsLawfulLock rules place lock → lock.number ≢ 1 → 4 < lock.number + k
        → Opens lock.first (lock.number - 1) (lock.due - 26) (to_end (Locked lock) place m)
    opens zero lock place m lawful inside fuel = absurd (omega (arith, fuel, (lawful-numbers rules place lock lawful).2))
    opens (suc k) lock place m lawful inside fuel =
        let x : ℕ = lock.number in
        let numbers = lawful-numbers rules place lock lawful in
        let second : 2 ≤ x = omega (arith, numbers, inside) in
        let p : ℕ = lock.due - 26 in
        let late : 26 ≤ lock.due = omega (arith, lawful.in_order, inside, lawful.enough_bits) in
        let here : lock.due ≡ p + 26 * (x - (x - 1)) = omega (arith, late, second) in
        let later : List Item = to_end (step b rules lock.due (Locked lock)) (lock.due + 1) (place + m - (lock.due + 1)) in
        elim (cases_lt lock.due (place + m)) [
          | inr early ↦
              let at : p ≡ p + 26 * (x - 1 - (x - 1)) = omega arith in
              record {
                y = x - 1;
                rest = [];
                order = (omega arith, omega (arith, numbers.2));
                is = grind (arith, common_steps, items_of_end, run_waiting, group, lock.first, p, ne_eqb);
              }
          | inl reached ↦
              let due : to_end (Locked lock) place m ≡ items_at b rules lock.due (Locked lock) ++ later = to_end-due lock place m lawful.soon.0 reached in
              elim (cases_Bool (are_too_many rules.loss (history_after_block b rules lock.due x lock.bad))) [
                | inl many ↦ record {
                  y = x;
                  rest = LostLock lock.due ∷ later;
                  order = (omega arith, numbers.2);
                  is = due ∙ ap (λ (is : List Item). is ++ later) (items-losing b rules lock many ∙ ap (λ (q : ℕ). Group (group b rules lock.first x q) ∷ LostLock lock.due ∷ []) here);
                }
                | inr kept ↦ elim (cases_eq x 4) [
                  | inl four ↦ record {
                    y = x;
                    rest = later;
                    order = (omega arith, numbers.2);
                    is = grind (arith, common_steps, due, later, items-keeping, group, lock.first, lock.due, eq-eqb);
                  }
                  | inr fewer ↦
                      let bad : ℕ = history_after_block b rules lock.due x lock.bad in
                      let n : x % 4 + 1 ≡ x + 1 = omega (arith, numbers, fewer) in
                      let after : Locked (lock_after lock.due x bad lock.first) ≡ Locked (lock_of (lock.due + 26) (x + 1) bad lock.first) =
                      ap₂ (λ (y f : ℕ). Locked (lock_of (lock.due + 26) y bad f)) n (ap (λ (t : Bool). if t then 1 else lock.first) (ne_eqb x 4 fewer)) in
                      let state : step b rules lock.due (Locked lock) ≡ Locked (lock_of (lock.due + 26) (x + 1) bad lock.first) = step-keeping b rules lock kept ∙ after in
                      let none : items_at b rules lock.due (Locked lock) ≡ [] =
                      items-keeping b rules lock kept ∙ ap (λ (t : Bool). elim t as (λ _. List Item) [ true ↦ Group (group b rules lock.first x lock.due) ∷ [] | false ↦ [] ]) (ne_eqb x 4 fewer) in
                      let next : ℕ = place + m - (lock.due + 1) in
                      let rest = opens k (lock_of (lock.due + 26) (x + 1) bad lock.first) (lock.due + 1) next
                      (subst (IsLawful rules (lock.due + 1)) state (lawful-due b rules place lock loss lawful)) (λ e. absurd (omega (arith, e, second))) (omega (arith, fuel)) in
                      let there : List Item = to_end (Locked (lock_of (lock.due + 26) (x + 1) bad lock.first)) (lock.due + 1) next in
                      let all : there ≡ to_end (Locked lock) place m = ap (λ (t : State). to_end t (lock.due + 1) next) (sym state) ∙ sym (due ∙ ap (λ (is : List Item). is ++ later) none) in
                      let back : x + 1 - 1 ≡ x = omega arith in
                      let at : lock.due + 26 - 26 ≡ lock.due = omega arith in
                      grind (arith, common_steps, one_on, lock.first, lock.due, to_end, second, all, back, rest, p, late)
                ]
              ]
        ]

-- ---- the group that it continues

module _ (b : Signal) (rules : RuleNumbers) (f x y p : ℕ) (low : 1 ≤ f) (order : f ≤ x) (more : x ≤ y) (room : 26 * (x - f) + 25 ≤ p) where
  abbrev later_place : ℕ
  later_place = p + 26 * (y - x)

  block_goes_on : (one two : Wanted) (q : ℕ) → (q ≤ x → one ≡ two)
      → (Some (block_at b rules f x p one q) ≡ Some Missing) ⊎ (Some (block_at b rules f y later_place two q) ≡ Some (block_at b rules f x p one q))
  block_goes_on one two q same = grind (arith, common_steps, cases_lt, block_at-missing, block_at)

  group_goes_on : x < 4 → GoesOn (group b rules f x p) (group b rules f y later_place)
  unfolding group
  group_goes_on few = grind (arith, common_steps, block_at-missing, order, slice_get, blocks_at, y, later_place, block_goes_on, wanted_beside, block_at)

-- ---- the reports

module _ (longer shorter : Signal) (rules : RuleNumbers) (loss : IsLossRule rules.loss) (begins : BeginsWith longer shorter) where
  abbrev n : ℕ
  n = length_of shorter

  abbrev m : ℕ
  m = length begins.more

  long : length_of longer ≡ n + m
  long = ap (λ (bits : List ℕ). length bits) begins.bits ∙ length-append shorter.bits begins.more

  ends : (t : State) → IsLawful rules n t → EndGoesOn (items_of_end shorter rules t) (to_end longer rules t n m)
  ends Searching lawful = tt
  ends (Locked lock) lawful = elim (cases_eq lock.number 1) [
    | inl one ↦ grind (arith, common_steps, items_of_end, group, lock.first, lock.number, lock.due, eq-eqb, one, to_end)
    | inr inside ↦
        let x : ℕ = lock.number - 1 in
        let p : ℕ = lock.due - 26 in
        let numbers = lawful-numbers rules n lock lawful in
        let order : (1 ≤ lock.first) × (lock.first ≤ x) × (x < 4) = (omega (arith, lawful.in_order), omega (arith, lawful.in_order, inside), omega (arith, lawful.in_order)) in
        let some : items_of_end shorter rules (Locked lock) ≡ Group (group shorter rules lock.first x p) ∷ [] =
        ap (λ (t : Bool). elim t as (λ _. List Item) [ true ↦ [] | false ↦ Group (group shorter rules lock.first x p) ∷ [] ]) (ne_eqb lock.number 1 inside) in
        let one : group longer rules lock.first x p ≡ group shorter rules lock.first x p =
        group-alike longer shorter begins rules lock.first x p (omega (arith, lawful.soon, order, lawful.enough_bits)) in
        let next = opens longer rules loss 4 lock n m lawful inside (omega (arith, numbers)) in
        let goes = group_goes_on longer rules lock.first x next.y p order.0 order.1 next.order.0 (omega (arith, lawful.enough_bits, order)) order.2 in
        grind (arith, common_steps, to_end, some, one, group, lock.first, p, next.is, goes)
  ]

  adds_items : OnlyAddsItems (report_items shorter rules) (report_items longer rules)
  adds_items =
      let run_shorter : State × List Item = run shorter rules Searching 0 n in
      let t : State = run_shorter.0 in
      let start : 0 + n ≡ n = omega arith in
      let lawful : IsLawful rules n t = subst (λ (q : ℕ). IsLawful rules q t) start (lawful-run shorter rules loss Searching 0 n tt) in
      let whole : run longer rules Searching 0 (length_of longer) ≡ ((run longer rules t n m).0, run_shorter.1 ++ (run longer rules t n m).1) =
      ap (λ (l : ℕ). run longer rules Searching 0 l) long
      ∙ run-append longer rules Searching 0 n m
      ∙ ap₂ (λ (r : State × List Item) (q : ℕ). ((run longer rules r.0 q m).0, r.1 ++ (run longer rules r.0 q m).1)) (run-alike longer shorter begins rules Searching 0 n (omega arith)) start in
      record {
        common = run_shorter.1;
        end = items_of_end shorter rules t;
        later = to_end longer rules t n m;
        shorter_is = sym (run_is_report shorter rules loss);
        longer_is = sym (run_is_report longer rules loss)
            ∙ ap (λ (r : State × List Item). r.1 ++ items_of_end longer rules r.0) whole
            ∙ append_assoc run_shorter.1 (run longer rules t n m).1 (items_of_end longer rules (run longer rules t n m).0);
        goes_on = ends t lawful;
      }

pub longer_recordings_add_items : LongerRecordingsAddItems
longer_recordings_add_items longer shorter rules loss begins = adds_items longer shorter rules loss begins

-- ---- a beginning

clipped_all : (n i : ℕ) (gaps : List (ℕ × ℕ)) → i < n
    → list_any (is_touched_by i) gaps ≡ list_any (is_touched_by i) (map (λ (gap : ℕ × ℕ). (gap.0, min gap.1 n)) (filter (λ (gap : ℕ × ℕ). nat_lt gap.0 n) gaps))
clipped_all n i [] within = refl
clipped_all n i (gap ∷ gaps) within = grind (arith, common_steps, list_any, is_touched_by, min, filter, nat_lt, lt-ltb, lt-leb, le-ltb, gap.0, gap.1, clipped_all n i gaps within)

pub beginnings_begin : BeginningsBegin
unfolding touched
beginnings_begin b n few = grind (arith, common_steps, drop, take-append-drop, clipped_all, length-take, b.bits, b.gaps, drop n b.bits, take-append-drop n b.bits, length-take n b.bits)

-- ---- the totals

-- a sum over blocks of which those that were read are the same
sum_goes_on : (f : Block → ℕ) → f Missing ≡ 0 → (xs ys : List Block)
    → ((y : ℕ) → (slice_get xs y ≡ Some Missing) ⊎ (slice_get ys y ≡ slice_get xs y)) → sum_by f xs ≤ sum_by f ys
sum_goes_on f none [] ys goes = omega arith
sum_goes_on f none (a ∷ xs) [] goes = elim (goes 0) [
  | inl missing ↦
      let is : a ≡ Missing = cc missing in
      omega (arith, sum_by-cons f a xs, ap f is, none, sum_goes_on f none xs [] (λ y. goes (suc y)))
  | inr same ↦ cc same
]
sum_goes_on f none (a ∷ xs) (b ∷ ys) goes =
    let rest = sum_goes_on f none xs ys (λ y. goes (suc y)) in
    elim (goes 0) [
      | inl missing ↦ grind (arith, common_steps, sum_by-cons, rest)
      | inr same ↦ grind (arith, common_steps, sum_by-cons, rest)
    ]

module _ (shorter longer : List Item) (adds : OnlyAddsItems shorter longer) where
  grows : (w : Item → ℕ) → ((g h : GroupOf) → GoesOn g h → w (Group g) ≤ w (Group h)) → sum_by w shorter ≤ sum_by w longer
  grows w more = grind (arith, common_steps, sum_by-append)

  blocks_grow : (f : Block → ℕ) → f Missing ≡ 0 → sum_blocks f shorter ≤ sum_blocks f longer
  blocks_grow f none = grows (λ (item : Item). elim item as (λ _. ℕ) [ Acquired a x ↦ 0 | Group g ↦ sum_by f g.blocks | LostLock a ↦ 0 ]) (λ g h goes. sum_goes_on f none g.blocks h.blocks goes.blocks)

  -- a group that goes on is not complete
  not_complete : (g h : GroupOf) → GoesOn g h → is_complete (Group g) ≡ false
  not_complete g h goes = grind (arith, common_steps, get_or_from_slice_get g.blocks 3 Missing Missing goes.unfinished)

  no_less : AreNoLess (totals_of shorter) (totals_of longer)
  no_less = record {
    valid = blocks_grow (λ block. if is_valid block then 1 else 0) refl;
    bursts = bursts;
    lost = blocks_grow (λ block. if is_lost block then 1 else 0) refl;
    bits = blocks_grow bits_corrected refl;
    groups = grows (λ item. cond (is_group item) 1 0) (λ g h goes. omega arith);
    complete = grows (λ item. cond (is_complete item) 1 0) (λ g h goes. omega (arith, ap (λ (t : Bool). number_of t) (not_complete g h goes)));
    acquired = grows (λ item. cond (is_acquired item) 1 0) (λ g h goes. omega arith);
    losses = grows (λ item. cond (is_sync_loss item) 1 0) (λ g h goes. omega arith);
  }
    where
      number_of : Bool → ℕ
      number_of t = cond t 1 0

      by_span : (s : ℕ) → count_blocks (is_corrected_by s) shorter ≤ count_blocks (is_corrected_by s) longer
      by_span s = blocks_grow (λ block. if is_corrected_by s block then 1 else 0) refl

      bursts : (y : ℕ) → slice_index (totals_of shorter).bursts y ≤ slice_index (totals_of longer).bursts y
      bursts zero = by_span 1
      bursts (suc zero) = by_span 2
      bursts (suc (suc zero)) = by_span 3
      bursts (suc (suc (suc zero))) = by_span 4
      bursts (suc (suc (suc (suc zero)))) = by_span 5
      bursts (suc (suc (suc (suc (suc y))))) = omega arith

pub totals_only_grow : TotalsOnlyGrow
totals_only_grow longer shorter rules loss begins = no_less (report_items shorter rules) (report_items longer rules) (adds_items longer shorter rules loss begins)

pub ruleset longer_recordings = (beginnings_begin, longer_recordings_add_items, totals_only_grow)
