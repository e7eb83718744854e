-- Runs to the end of a recording, with the item of the end: what they give up to the first place that acquires, and up to the next
-- block of a lock.
use Rattle.rds_sync.proofs.Names.{common_steps, ◌≡◌, ℕ, zero, suc, ◌+◌, ◌<◌, ◌≤◌, List, [], ◌++◌, Option, Some, None, refl, ap₂, ◌∙◌, arith, add-zero, zero-add, suc-add, MatchOption, Signal, Lock, State, Searching, Locked, Item, RuleNumbers, acquired, run, step, items_at, items_of_end, first_lock, ◌*◌, ◌∷◌, true, false, sym, cond, ne_eqb, cases_eq, cases_lt, le-leb, lt-leb, eq-eqb, ◌==◌, number_after, Group, LostLock, group, are_too_many, bad_at, is_good, loses_at, first_of_group, completed_group, lock_of, lock_after, ◌≢◌, ◌-◌, Bool, ap, append_assoc, add-one, one-add, inl, inr, cases_Bool, filter_map, find, range_with_len, length_of, IsLossRule, block_count, end, read_blocks, group_closed_by, loss_items, items_of_lock, items_from, report_items, length, length-append}
use Rattle.rds_sync.proofs.{RunLemmas.items-searching, RunLemmas.step-searching, RunLemmas.items-waiting, RunLemmas.step-waiting, RunLemmas.items-keeping, RunLemmas.step-keeping, RunLemmas.items-losing, RunLemmas.step-losing, RunLemmas.items-acquiring, RunLemmas.step-acquiring, RunLemmas.acquired_range, LossLemmas.loses_is, LossLemmas.never_0}

module _ (b : Signal) (rules : RuleNumbers) where
  -- the items of the next bits from place a, and of the end
  abbrev pub whole : State → ℕ → ℕ → List Item
  whole s a zero = items_of_end b rules s
  whole s a (suc bits) = items_at b rules a s ++ whole (step b rules a s) (a + 1) bits

  pub whole_is : (s : State) (a bits : ℕ) → (run b rules s a bits).1 ++ items_of_end b rules (run b rules s a bits).0 ≡ whole s a bits
  whole_is s a zero = refl
  whole_is s a (suc bits) = grind (arith, common_steps, items_at, run, step, whole_is (step b rules a s) (a + 1) bits)

  -- the result of a search for a lock before place `total`, if the items from there are w
  abbrev pub Found : List Item → ℕ → ℕ → ℕ × ℕ → Type 0
  Found w total p l = (left : ℕ) × (l.0 + (left + 1) ≡ total) × (p ≤ l.0) × (acquired b rules l.0 ≡ Some l.1) × (w ≡ whole Searching l.0 (suc left))

  weaken : (o : Option (ℕ × ℕ)) (w : List Item) (total total' p : ℕ) → total ≡ total' → MatchOption o (w ≡ []) (Found w total (p + 1)) → MatchOption o (w ≡ []) (Found w total' p)
  weaken o w total total' p e h = grind (arith, common_steps)

  -- one bit that gives these items and leads to this state
  pub goes : (s t : State) (is : List Item) (p bits : ℕ) → items_at b rules p s ≡ is → step b rules p s ≡ t → whole s p (suc bits) ≡ is ++ whole t (p + 1) bits
  goes s t is p bits i e = ap₂ (λ (js : List Item) (u : State). js ++ whole u (p + 1) bits) i e

  pub first_none : (p bits : ℕ) → acquired b rules p ≡ None → first_lock b rules p (suc bits) ≡ first_lock b rules (p + 1) bits
  first_none p bits e = rw (e, first_lock) refl

  pub first_some : (p bits x : ℕ) → acquired b rules p ≡ Some x → first_lock b rules p (suc bits) ≡ Some (p, x)
  first_some p bits x e = rw (e, first_lock) refl

  pub found : (p bits : ℕ) → MatchOption (first_lock b rules p bits) (whole Searching p bits ≡ []) (Found (whole Searching p bits) (p + bits) p)
  found p zero = refl
  found p (suc bits) = at_case (found (p + 1) bits) (acquired b rules p) refl where
    at_case : MatchOption (first_lock b rules (p + 1) bits) (whole Searching (p + 1) bits ≡ []) (Found (whole Searching (p + 1) bits) (p + 1 + bits) (p + 1)) →
        (o : Option ℕ) → acquired b rules p ≡ o → MatchOption (first_lock b rules p (suc bits)) (whole Searching p (suc bits) ≡ []) (Found (whole Searching p (suc bits)) (p + suc bits) p)
    at_case h None e =
        rw (first_none p bits e, goes Searching Searching [] p bits (items-searching b rules p e) (step-searching b rules p e)) (weaken _ _ (p + 1 + bits) (p + suc bits) p (omega arith) h)
    at_case h (Some x) e = rw (first_some p bits x e) (bits, omega arith, omega arith, e, refl)

  -- nothing happens before the next block
  late_step : (lock : Lock) (p bits : ℕ) → p < lock.due → whole (Locked lock) p (suc bits) ≡ whole (Locked lock) (p + 1) bits
  late_step lock p bits early = grind (arith, common_steps, goes, items-waiting, step-waiting)

  pub skip : (lock : Lock) (p d bits : ℕ) → p + d ≤ lock.due → whole (Locked lock) p (d + bits) ≡ whole (Locked lock) (p + d) bits
  skip lock p zero bits early = rw (add-zero, zero-add) refl
  skip lock p (suc d) bits early =
      let e : p + suc d ≡ p + 1 + d = omega arith in
      rw (suc-add, e) (late_step lock p (d + bits) (omega arith) ∙ skip lock (p + 1) d bits (omega arith))

  pub skip_to_end : (lock : Lock) (p bits : ℕ) → p + bits ≤ lock.due → whole (Locked lock) p bits ≡ items_of_end b rules (Locked lock)
  skip_to_end lock p zero early = refl
  skip_to_end lock p (suc bits) early = late_step lock p bits (omega arith) ∙ skip_to_end lock (p + 1) bits (omega arith)

-- A lock from block to block: its state once block k was read, and the items of the run up to the next.
module _ (b : Signal) (rules : RuleNumbers) (a x : ℕ) where
  -- the loss history once block k was read
  abbrev pub bad : ℕ → ℕ
  bad k = bad_at (is_good b rules a x) rules.loss k

  pub number_first : 1 ≤ x → x ≤ 4 → number_after x 0 ≡ x
  number_first low high = omega arith

  pub keeps : (k : ℕ) → are_too_many rules.loss (bad k) ≡ false → loses_at b rules a x k ≡ false
  keeps k e = sym (loses_is (is_good b rules a x) rules.loss k) ∙ e

  pub loses_here : (k : ℕ) → are_too_many rules.loss (bad k) ≡ true → loses_at b rules a x k ≡ true
  loses_here k e = sym (loses_is (is_good b rules a x) rules.loss k) ∙ e

  -- the lock, and the state, once block k was read
  abbrev pub lock_behind : ℕ → Lock
  lock_behind k = lock_of (a + 26 * suc k) (number_after x (suc k)) (bad k) (first_of_group b rules a x (suc k))

  abbrev pub S : ℕ → State
  S k = Locked (lock_behind k)

  -- the group that ends with block k
  abbrev pub G : ℕ → Item
  G k = Group (group b rules (first_of_group b rules a x k) (number_after x k) (a + 26 * k))

  abbrev pub closes : ℕ → List Item
  closes k = completed_group b rules (first_of_group b rules a x k) (number_after x k) (a + 26 * k)

  first_next : 1 ≤ x → (k : ℕ) → cond (number_after x k == 4) 1 (first_of_group b rules a x k) ≡ first_of_group b rules a x (suc k)
  first_next low k = grind (arith, common_steps, cases_lt, number_after, ne_eqb, le-leb, cases_eq, eq-eqb, lt-leb)

  pub S_is : 1 ≤ x → (k : ℕ) → Locked (lock_after (a + 26 * k) (number_after x k) (bad k) (first_of_group b rules a x k)) ≡ S k
  S_is low k = grind (arith, common_steps, first_next)

  pub block_good : 1 ≤ x → (k bits : ℕ) → are_too_many rules.loss (bad (suc k)) ≡ false
      → whole b rules (S k) (a + 26 * k + 1) (25 + suc bits) ≡ closes (suc k) ++ whole b rules (S (suc k)) (a + 26 * suc k + 1) bits
  block_good low k bits h = grind (arith, common_steps, goes, items-keeping, step-keeping, S_is, skip)

  pub block_lost : (k bits : ℕ) → are_too_many rules.loss (bad (suc k)) ≡ true
      → whole b rules (S k) (a + 26 * k + 1) (25 + suc bits) ≡ G (suc k) ∷ LostLock (a + 26 * suc k) ∷ whole b rules Searching (a + 26 * suc k + 1) bits
  block_lost k bits h = grind (arith, common_steps, goes, items-losing, step-losing, skip)

  pub block_end : (k bits : ℕ) → bits ≤ 25 → whole b rules (S k) (a + 26 * k + 1) bits ≡ items_of_end b rules (S k)
  block_end k bits h = skip_to_end b rules (lock_behind k) (a + 26 * k + 1) bits (omega arith)

  -- at the end of the recording the group in progress is closed
  pub last_group : 1 ≤ x → (k : ℕ) → closes k ++ items_of_end b rules (S k) ≡ G k ∷ []
  last_group low k = grind (arith, common_steps, cases_eq, number_after, eq-eqb, completed_group, items_of_end, first_of_group, ne_eqb, first_next)

  pub first_first : x ≤ 4 → first_of_group b rules a x 0 ≡ x
  first_first high = rw (le-leb (x + 0) 4 (omega arith)) refl

-- The items of the run from Searching are those of the locks, one after the other: the run is the report.
find_low : (p : ℕ → Bool) (c d k : ℕ) → find p (range_with_len c d) ≡ Some k → c ≤ k
find_low p c zero k e = cc
find_low p c (suc d) k e = elim (cases_Bool (p c)) [
  | inl holds ↦ let f : find p (range_with_len c (suc d)) ≡ Some c = rw holds refl in let same : c ≡ k = cc (e, f) in omega arith
  | inr fails ↦ let f : find p (range_with_len c (suc d)) ≡ find p (range_with_len (c + 1) d) = rw fails refl in
      let more : c + 1 ≤ k = find_low p (c + 1) d k (sym f ∙ e) in omega arith
]

module _ (b : Signal) (rules : RuleNumbers) (a x : ℕ) where
  -- where the lock ends
  read_none : end b rules a x ≡ None → read_blocks b rules a x ≡ block_count b rules a x
  read_none e = rw (e, read_blocks) refl

  read_some : (k : ℕ) → end b rules a x ≡ Some k → read_blocks b rules a x ≡ k + 1
  read_some k e = rw (e, read_blocks) refl

  loss_none : end b rules a x ≡ None → loss_items b rules a x ≡ []
  loss_none e = rw (e, loss_items) refl

  loss_some : (k : ℕ) → end b rules a x ≡ Some k → loss_items b rules a x ≡ LostLock (a + 26 * k) ∷ []
  loss_some k e = rw (e, loss_items) refl

  read_low : (c d : ℕ) → c + d ≡ block_count b rules a x → end b rules a x ≡ find (loses_at b rules a x) (range_with_len c d) → c ≤ read_blocks b rules a x
  read_low c d all e = grind (arith, common_steps, end, read_blocks, find_low, loses_at, read_some)

  -- the groups from block k on
  abbrev groups_from : ℕ → ℕ → List Item
  groups_from k r = filter_map (group_closed_by b rules a x) (range_with_len k r)

  groups_step : (k r : ℕ) → k + 1 ≢ read_blocks b rules a x → groups_from k (suc r) ≡ closes b rules a x k ++ groups_from (suc k) r
  groups_step k r other = grind (arith, common_steps, cases_eq, number_after, eq-eqb, completed_group, ne_eqb, read_blocks)

  groups_last : (k r : ℕ) → k + 1 ≡ read_blocks b rules a x → groups_from k (suc r) ≡ G b rules a x k ∷ groups_from (suc k) r
  groups_last k r same = grind (arith, common_steps, cases_eq, number_after, eq-eqb, ne_eqb, read_blocks)

  -- the items after this lock
  abbrev rest : ℕ → List Item
  rest fuel = elim (end b rules a x) [ None ↦ [] | Some k ↦ items_from b rules fuel (a + 26 * k + 1) ]

  rest_none : (fuel : ℕ) → end b rules a x ≡ None → rest fuel ≡ []
  rest_none fuel e = rw (e, rest) refl

  rest_some : (fuel k : ℕ) → end b rules a x ≡ Some k → rest fuel ≡ items_from b rules fuel (a + 26 * k + 1)
  rest_some fuel k e = rw (e, rest) refl

  find_here : (k d : ℕ) → loses_at b rules a x k ≡ true → find (loses_at b rules a x) (range_with_len k (suc d)) ≡ Some k
  find_here k d e = rw (e, find) refl

  find_later : (k d : ℕ) → loses_at b rules a x k ≡ false → find (loses_at b rules a x) (range_with_len k (suc d)) ≡ find (loses_at b rules a x) (range_with_len (suc k) d)
  find_later k d e = rw (← add-one k, e, find) refl

  tail : (fuel : ℕ) → ((q m : ℕ) → q + m ≡ length_of b → m ≤ fuel → whole b rules Searching q m ≡ items_from b rules fuel q)
      → 1 ≤ x → (d k bits : ℕ) → suc k + d ≡ block_count b rules a x → a + 26 * k + 1 + bits ≡ length_of b → bits ≤ fuel
      → end b rules a x ≡ find (loses_at b rules a x) (range_with_len (suc k) d)
      → closes b rules a x k ++ whole b rules (S b rules a x k) (a + 26 * k + 1) bits ≡ groups_from k (read_blocks b rules a x - k) ++ (loss_items b rules a x ++ rest fuel)
  tail fuel again low zero k bits all total few e = grind (arith, common_steps, read_none, read_blocks, closes, block_end, last_group, loss_none, rest_none, groups_from, groups_last)
  tail fuel again low (suc d) k bits all total few e = elim (cases_Bool (are_too_many rules.loss (bad b rules a x (suc k)))) [
    | inr ok ↦
        let left : ℕ = bits - 26 in
        let m : bits ≡ 25 + suc left = omega arith in
        let e2 = e ∙ find_later (suc k) d (keeps b rules a x (suc k) ok) in
        let long : suc (suc k) ≤ read_blocks b rules a x = read_low (suc (suc k)) d (omega arith) e2 in
        let w = ap (λ (n : ℕ). whole b rules (S b rules a x k) (a + 26 * k + 1) n) m ∙ block_good b rules a x low k left ok in
        let ih = tail fuel again low d (suc k) left (omega arith) (omega arith) (omega arith) e2 in
        let r : read_blocks b rules a x - k ≡ suc (read_blocks b rules a x - suc k) = omega arith in
        let ne : k + 1 ≢ read_blocks b rules a x = λ f. omega arith in
        grind (arith, common_steps, closes, w, ih, loss_items, rest, groups_from, r, groups_step, read_blocks, ne, append_assoc)
    | inl lost ↦
        let left : ℕ = bits - 26 in
        let m : bits ≡ 25 + suc left = omega arith in
        let e2 = e ∙ find_here (suc k) d (loses_here b rules a x (suc k) lost) in
        let rb = read_some (suc k) e2 in
        let w = ap (λ (n : ℕ). whole b rules (S b rules a x k) (a + 26 * k + 1) n) m ∙ block_lost b rules a x k left lost in
        let next = again (a + 26 * suc k + 1) left (omega arith) (omega arith) in
        let r : read_blocks b rules a x - k ≡ 2 = omega (arith, rb) in
        let ne : k + 1 ≢ read_blocks b rules a x = λ f. omega (arith, rb) in
        let same : suc k + 1 ≡ read_blocks b rules a x = omega (arith, rb) in
        grind (arith, common_steps, closes, w, loss_some, e2, rest_some, items_from, groups_from, r, groups_step, ne, groups_last, same, append_assoc)
  ]

module _ (b : Signal) (rules : RuleNumbers) where
  -- one lock from its first place on
  from_lock : (fuel : ℕ) → ((q m : ℕ) → q + m ≡ length_of b → m ≤ fuel → whole b rules Searching q m ≡ items_from b rules fuel q) → IsLossRule rules.loss
      → (a x left : ℕ) → acquired b rules a ≡ Some x → a + (left + 1) ≡ length_of b → left ≤ fuel
      → whole b rules Searching a (suc left) ≡ items_of_lock b rules a x ++ rest b rules a x fuel
  from_lock fuel again loss a x left e total few =
      let range = acquired_range b rules a x e in
      let low : 1 ≤ x = range.0 in
      let start : a + 26 * 0 ≡ a = omega arith in
      let num = number_first b rules a x low range.1 in
      let fst = first_first b rules a x range.1 in
      let begins : Locked (lock_after a x 0 x) ≡ S b rules a x 0 = rw (start, num, fst) at (S_is b rules a x low 0) in
      let closed : closes b rules a x 0 ≡ completed_group b rules x x a = rw (start, num, fst) refl in
      let none_before : read_blocks b rules a x - 0 ≡ read_blocks b rules a x = omega arith in
      let d : ℕ = block_count b rules a x - 1 in
      let all : 1 + d ≡ block_count b rules a x = omega arith in
      let finds : end b rules a x ≡ find (loses_at b rules a x) (range_with_len 1 d) =
      ap (λ (n : ℕ). find (loses_at b rules a x) (range_with_len 0 n)) (sym all ∙ one-add d) ∙ find_later b rules a x 0 d (never_0 (is_good b rules a x) rules.loss loss) in
      let later = tail b rules a x fuel again low d 0 left all (omega arith) few finds in
      grind (arith, common_steps, goes, completed_group, items-acquiring, step-acquiring, begins, whole, closed, closes, start, later, groups_from, loss_items, rest, none_before, append_assoc, read_blocks)

  locks_are : IsLossRule rules.loss → (fuel q m : ℕ) → q + m ≡ length_of b → m ≤ fuel → whole b rules Searching q m ≡ items_from b rules fuel q
  locks_are loss zero q zero total few = refl
  locks_are loss zero q (suc m) total few = absurd (omega arith)
  locks_are loss (suc fuel) q m total few =
      let left : length_of b - q ≡ m = omega arith in
      rw (left, items_from) (at_case (locks_are loss fuel) (first_lock b rules q m) refl (found b rules q m)) where
        at_case : ((q2 m2 : ℕ) → q2 + m2 ≡ length_of b → m2 ≤ fuel → whole b rules Searching q2 m2 ≡ items_from b rules fuel q2)
            → (o : Option (ℕ × ℕ)) → first_lock b rules q m ≡ o → MatchOption o (whole b rules Searching q m ≡ []) (Found b rules (whole b rules Searching q m) (q + m) q)
            → whole b rules Searching q m ≡ elim (first_lock b rules q m) as (λ _. List Item) [ None ↦ [] | Some l ↦ items_of_lock b rules l.0 l.1 ++ rest b rules l.0 l.1 fuel ]
        at_case again None e h = rw e h
        at_case again (Some l) e h = rw e (h.4 ∙ from_lock fuel again loss l.0 l.1 h.0 h.3 (h.1 ∙ total) (omega (arith, h.1, h.2)))

  -- the items of the run over the whole recording, and of its end, are the report's
  pub run_is_report : IsLossRule rules.loss → (run b rules Searching 0 (length_of b)).1 ++ items_of_end b rules (run b rules Searching 0 (length_of b)).0 ≡ report_items b rules
  run_is_report loss = whole_is b rules Searching 0 (length_of b) ∙ locks_are loss (length_of b) 0 (length_of b) (omega arith) (omega arith)

-- How many items a run gives, and that they are the report's.

-- so a run gives at most two a bit
pub run_items_few : (b : Signal) (rules : RuleNumbers) (s : State) (a n : ℕ) → length (run b rules s a n).1 ≤ 2 * n
run_items_few b rules s a zero = omega arith
run_items_few b rules s a (suc n) = grind (arith, common_steps, step, length-append, items_at, run, run_items_few b rules (step b rules a s) (a + 1) n)

-- a list with a first item is not empty
pub some_given : (given : List Item) (item : Item) (others : List Item) → given ≡ item ∷ others → given ≢ []
some_given given item others is none = cc

-- the items of a run over a whole recording, with those of its end
pub report-run : (b : Signal) (rules : RuleNumbers) (n : ℕ) (s : State) (items : List Item) → IsLossRule rules.loss → n ≡ length_of b
    → s ≡ (run b rules Searching 0 (n - 0)).0 → items ≡ (run b rules Searching 0 (n - 0)).1
    → items ++ items_of_end b rules s ≡ report_items b rules
report-run b rules n s items loss whole state_is items_are = grind (arith, common_steps, length_of, items_of_end, run, run_is_report, report_items, run_is_report b rules loss)
