-- Runs: over ranges in a row, while a block is waited for, up to the next block, and through a search.
use Rattle.rds_sync.proofs.Names.{common_steps, ◌≡◌, ◌≢◌, ℕ, zero, suc, ◌+◌, ◌-◌, ◌<◌, ◌≤◌, List, [], ◌∷◌, ◌++◌, true, false, Some, None, refl, sym, ap, ap₂, ◌∙◌, arith, append_assoc, append-nil, add-zero, zero-add, suc-add, ne_eqb, eq-eqb, Signal, Lock, State, Searching, Locked, Item, Acquired, Group, LostLock, RuleNumbers, are_too_many, acquired, group, run, step, after_bit, items_at, history_after_block, completed_group, lock_after, ◌*◌, Bool, Option, subst, inl, inr, cases_eq, cases_lt, cases_Bool, lt-ltb, list_any, range_with_len, Offset, number, offset_at, IsLossRule, IsLawfulBad, has_number, has_partner, is_numbered, with_partner, IsLawful, IsLawfulLock, lock_of, FindsFirst, NoneAcquires, WindowsLeft}
use Rattle.rds_sync.proofs.LossLemmas.{lawful_none}

module _ (b : Signal) (rules : RuleNumbers) where
  -- one bit

  pub step-acquiring : (i x : ℕ) → acquired b rules i ≡ Some x → step b rules i Searching ≡ Locked (lock_after i x 0 x)
  step-acquiring i x e = rw (e, step, after_bit) refl

  pub items-acquiring : (i x : ℕ) → acquired b rules i ≡ Some x → items_at b rules i Searching ≡ Acquired i x ∷ completed_group b rules x x i
  items-acquiring i x e = rw (e, items_at, after_bit) refl

  pub step-searching : (i : ℕ) → acquired b rules i ≡ None → step b rules i Searching ≡ Searching
  step-searching i e = rw (e, step, after_bit) refl

  pub items-searching : (i : ℕ) → acquired b rules i ≡ None → items_at b rules i Searching ≡ []
  items-searching i e = rw (e, items_at, after_bit) refl

  pub step-waiting : (lock : Lock) (i : ℕ) → lock.due ≢ i → step b rules i (Locked lock) ≡ Locked lock
  step-waiting lock i ne = rw (ne_eqb lock.due i ne, step, after_bit) refl

  pub items-waiting : (lock : Lock) (i : ℕ) → lock.due ≢ i → items_at b rules i (Locked lock) ≡ []
  items-waiting lock i ne = rw (ne_eqb lock.due i ne, items_at, after_bit) refl

  pub step-keeping : (lock : Lock) → are_too_many rules.loss (history_after_block b rules lock.due lock.number lock.bad) ≡ false
      → step b rules lock.due (Locked lock) ≡ Locked (lock_after lock.due lock.number (history_after_block b rules lock.due lock.number lock.bad) lock.first)
  step-keeping lock h = rw (eq-eqb lock.due lock.due refl, h, step, after_bit) refl

  pub items-keeping : (lock : Lock) → are_too_many rules.loss (history_after_block b rules lock.due lock.number lock.bad) ≡ false
      → items_at b rules lock.due (Locked lock) ≡ completed_group b rules lock.first lock.number lock.due
  items-keeping lock h = rw (eq-eqb lock.due lock.due refl, h, items_at, after_bit) refl

  pub step-losing : (lock : Lock) → are_too_many rules.loss (history_after_block b rules lock.due lock.number lock.bad) ≡ true → step b rules lock.due (Locked lock) ≡ Searching
  step-losing lock h = rw (eq-eqb lock.due lock.due refl, h, step, after_bit) refl

  pub items-losing : (lock : Lock) → are_too_many rules.loss (history_after_block b rules lock.due lock.number lock.bad) ≡ true
      → items_at b rules lock.due (Locked lock) ≡ Group (group b rules lock.first lock.number lock.due) ∷ LostLock lock.due ∷ []
  items-losing lock h = rw (eq-eqb lock.due lock.due refl, h, items_at, after_bit) refl

  -- the run of one bit
  pub run-one : (s : State) (a : ℕ) → run b rules s a 1 ≡ (step b rules a s, items_at b rules a s)
  run-one s a = ap (λ (is : List Item). (step b rules a s, is)) (append-nil (items_at b rules a s))

  -- a run whose first bit leads to state t with the items is
  pub run-first : (s t : State) (is : List Item) (a n : ℕ) → step b rules a s ≡ t → items_at b rules a s ≡ is
      → run b rules s a (suc n) ≡ ((run b rules t (a + 1) n).0, is ++ (run b rules t (a + 1) n).1)
  run-first s t is a n e i = ap₂ (λ (u : State) (js : List Item). ((run b rules u (a + 1) n).0, js ++ (run b rules u (a + 1) n).1)) e i

  -- a run over m bits and then over n
  pub run_state-append : (s : State) (a m n : ℕ) → (run b rules s a (m + n)).0 ≡ (run b rules (run b rules s a m).0 (a + m) n).0
  run_state-append s a zero n = rw (add-zero, zero-add) refl
  run_state-append s a (suc m) n =
      let e : a + suc m ≡ a + 1 + m = omega arith in
      rw (suc-add, e) (run_state-append (step b rules a s) (a + 1) m n)

  pub run_items-append : (s : State) (a m n : ℕ) → (run b rules s a (m + n)).1 ≡ (run b rules s a m).1 ++ (run b rules (run b rules s a m).0 (a + m) n).1
  run_items-append s a zero n = rw (add-zero, zero-add) refl
  run_items-append s a (suc m) n =
      let e : a + suc m ≡ a + 1 + m = omega arith in
      rw (suc-add, e) (ap (λ (is : List Item). items_at b rules a s ++ is) (run_items-append (step b rules a s) (a + 1) m n)
      ∙ sym (append_assoc (items_at b rules a s) (run b rules (step b rules a s) (a + 1) m).1 _))

  pub run-append : (s : State) (a m n : ℕ)
      → run b rules s a (m + n) ≡ ((run b rules (run b rules s a m).0 (a + m) n).0, (run b rules s a m).1 ++ (run b rules (run b rules s a m).0 (a + m) n).1)
  run-append s a m n = ap₂ (λ (t : State) (is : List Item). (t, is)) (run_state-append s a m n) (run_items-append s a m n)

  -- the same, said by places: from `from` to `middle`, then to `to`
  pub run_places : (s : State) (from middle to : ℕ) → from ≤ middle → middle ≤ to
      → run b rules s from (to - from)
      ≡ (
        (run b rules (run b rules s from (middle - from)).0 middle (to - middle)).0,
        (run b rules s from (middle - from)).1 ++ (run b rules (run b rules s from (middle - from)).0 middle (to - middle)).1,
      )
  run_places s from middle to low high = grind (arith, common_steps, run-append, run, run-append s from (middle - from) (to - middle))

  -- two runs that are in one state have one end, and from there on the same items
  pub runs_merge : (s t : State) (from middle to : ℕ) → from ≤ middle → middle ≤ to
      → (run b rules s from (middle - from)).0 ≡ (run b rules t from (middle - from)).0
      → (later : List Item)
      × ((run b rules s from (to - from)).0 ≡ (run b rules t from (to - from)).0)
      × ((run b rules s from (to - from)).1 ≡ (run b rules s from (middle - from)).1 ++ later)
      × ((run b rules t from (to - from)).1 ≡ (run b rules t from (middle - from)).1 ++ later)
  runs_merge s t from middle to low high same = grind (arith, common_steps, run_places, run, run_places s from middle to low high, run_places t from middle to low high)

  -- while a block is waited for, a run changes nothing and gives nothing
  pub run_waiting : (lock : Lock) (a n : ℕ) → a + n ≤ lock.due → run b rules (Locked lock) a n ≡ (Locked lock, [])
  run_waiting lock a zero h = refl
  run_waiting lock a (suc n) h = grind (arith, common_steps, run-first, step-waiting, items-waiting, run_waiting lock (a + 1) n (omega arith))

  -- a run up to and including the block that is due is that of its last bit
  pub run-reading : (lock : Lock) (a n : ℕ) → a + n ≡ lock.due
      → run b rules (Locked lock) a (n + 1) ≡ (step b rules lock.due (Locked lock), items_at b rules lock.due (Locked lock))
  run-reading lock a n e = grind (arith, common_steps, run-append, run, run_waiting, run-one)

  -- a search goes on where no place acquires
  pub run_searching : (a n : ℕ) → ((i : ℕ) → a ≤ i → i < a + n → acquired b rules i ≡ None) → run b rules Searching a n ≡ (Searching, [])
  run_searching a zero none = refl
  run_searching a (suc n) none = grind (arith, common_steps, run-first, step-searching, items-searching, run_searching (a + 1) n (λ i low high. none i (omega arith) (omega arith)))

-- a step, by its first state and its places
module _ (b : Signal) (rules : RuleNumbers) (s : State) (place after : ℕ) where
  module _ (lock : Lock) (is : s ≡ Locked lock) where
    pub run-due : place ≤ lock.due → after ≡ lock.due + 1
        → run b rules s place (after - place) ≡ (step b rules lock.due (Locked lock), items_at b rules lock.due (Locked lock))
    run-due order next = grind (arith, common_steps, run-reading)

    pub run-early : place ≤ after → after ≤ lock.due → run b rules s place (after - place) ≡ (Locked lock, [])
    run-early order before = rw is (run_waiting b rules lock place (after - place) (omega arith))

-- a run over a range and its next, each as a state and items
pub run-further : (b : Signal) (rules : RuleNumbers) (s now t : State) (items found : List Item) (from place after : ℕ)
    → from ≤ place → place ≤ after → run b rules s from (place - from) ≡ (now, items)
    → t ≡ (run b rules now place (after - place)).0 → found ≡ (run b rules now place (after - place)).1
    → run b rules s from (after - from) ≡ (t, items ++ found)
run-further b rules s now t items found from place after low high so_far state_is found_is = grind (arith, common_steps, run_places, run)

-- a search up to and including one place
pub run-found : (b : Signal) (rules : RuleNumbers) (place here : ℕ) → place ≤ here → ((j : ℕ) → place ≤ j → j < here → acquired b rules j ≡ None)
    → run b rules Searching place (here + 1 - place) ≡ (step b rules here Searching, items_at b rules here Searching)
run-found b rules place here order none = grind (arith, common_steps, run_searching, run-append b rules Searching place (here - place) 1)

-- a search of all places of a range
pub run-unfound : (b : Signal) (rules : RuleNumbers) (place to : ℕ) → place ≤ to → ((j : ℕ) → place ≤ j → j < to → acquired b rules j ≡ None)
    → run b rules Searching place (to - place) ≡ (Searching, [])
run-unfound b rules place to order none = run_searching b rules place (to - place) (λ j low high. none j low (omega arith))

-- two lists that make none are none
pub none-of : {A : Type 0} → (xs ys : List A) → xs ++ ys ≡ [] → (xs ≡ []) × (ys ≡ [])
none-of [] ys e = (refl, e)
none-of (x ∷ xs) ys e = cc

-- a run that gives nothing gave nothing before its last bit
pub run-quiet : (b : Signal) (rules : RuleNumbers) (s : State) (place to : ℕ) → place < to → (run b rules s place (to - place)).1 ≡ []
    → (run b rules s place (to - 1 - place)).1 ≡ []
run-quiet b rules s place to order nothing = grind (arith, common_steps, none-of, run_items-append, run, run_items-append b rules s place (to - 1 - place) 1)

pub ruleset one_bit = (run-one)

-- Where a place acquires, and the states that follow on a lawful one.
module _ (b : Signal) where
  -- no window ends before place 25
  pub off-place : (i : ℕ) (o : Offset) → offset_at b i ≡ Some o → 25 ≤ i
  unfolding offset_at
  off-place i o e = grind (arith, common_steps, cases_lt, lt-ltb, offset_at)

-- a test that some number of a range passes
pub any-range : (p : ℕ → Bool) (a n : ℕ) → list_any p (range_with_len a n) ≡ true → (k : ℕ) × (a ≤ k) × (k < a + n) × (p k ≡ true)
any-range p a zero h = cc
any-range p a (suc n) h = elim (cases_Bool (p a)) [
  | inl here ↦ (a, omega arith, omega arith, here)
  | inr not_here ↦
      let later : list_any p (range_with_len (a + 1) n) ≡ true = rw not_here at h in
      let found = any-range p (a + 1) n later in
      (found.0, omega (arith, found.1), omega (arith, found.2), found.3)
]

module _ (b : Signal) (rules : RuleNumbers) where
  -- the facts about a place that acquires
  pub record IsAcquired (i x : ℕ) : Type 0 where
    pub offset : Offset
    pub here : offset_at b i ≡ Some offset
    pub number_is : number offset ≡ x
    pub distance : ℕ
    pub within_reach : (1 ≤ distance) × (distance ≤ rules.reach)
    pub partner : has_partner b i x distance ≡ true

  if_partner : (t : Bool) (y x : ℕ) → elim t as (λ _. Option ℕ) [ true ↦ Some y | false ↦ None ] ≡ Some x → (t ≡ true) × (y ≡ x)
  if_partner t y x e = grind (arith, common_steps)

  pub acquired-facts : (i x : ℕ) → acquired b rules i ≡ Some x → IsAcquired i x
  unfolding acquired
  acquired-facts i x e = at_case (offset_at b i) refl e where
    at_case : (w : Option Offset) → offset_at b i ≡ w → elim w as (λ _. Option ℕ) [ None ↦ None | Some o ↦ with_partner b rules i (number o) ] ≡ Some x → IsAcquired i x
    at_case None w t = cc
    at_case (Some o) w t =
        let f = if_partner (list_any (has_partner b i (number o)) (range_with_len 1 rules.reach)) (number o) x t in
        let any = any-range (has_partner b i (number o)) 1 rules.reach f.0 in
        record {
          offset = o;
          here = w;
          number_is = f.1;
          distance = any.0;
          within_reach = (any.1, omega (arith, any.2));
          partner = subst (λ (y : ℕ). has_partner b i y any.0 ≡ true) f.1 any.3;
        }

  -- a place acquires with a number from 1 to 4
  pub acquired_range : (i x : ℕ) → acquired b rules i ≡ Some x → (1 ≤ x) × (x ≤ 4)
  acquired_range i x e = grind (arith, common_steps, acquired-facts, acquired, acquired-facts i x e)

  -- the least place that can acquire is 51
  pub acquired_place : (i x : ℕ) → acquired b rules i ≡ Some x → 51 ≤ i
  acquired_place i x e = grind (arith, common_steps, acquired-facts, off-place, acquired, acquired-facts i x e)

  -- the place has that number
  pub acquired-number : (i x : ℕ) → acquired b rules i ≡ Some x → has_number b i x ≡ true
  unfolding has_number
  acquired-number i x e = let f = acquired-facts i x e in ap (λ o. is_numbered o x) f.here ∙ eq-eqb _ x f.number_is

  -- where the offset at a place is known, acquiring is a matter of its partner
  pub acquired-none : (i : ℕ) → offset_at b i ≡ None → acquired b rules i ≡ None
  unfolding acquired
  acquired-none i e = ap (λ (w : Option Offset). elim w as (λ _. Option ℕ) [ None ↦ None | Some o ↦ with_partner b rules i (number o) ]) e

  pub acquired-some : (i : ℕ) (o : Offset) → offset_at b i ≡ Some o → acquired b rules i ≡ with_partner b rules i (number o)
  unfolding acquired
  acquired-some i o e = ap (λ (w : Option Offset). elim w as (λ _. Option ℕ) [ None ↦ None | Some o ↦ with_partner b rules i (number o) ]) e

-- the lock after block x was read at place i, or acquired there
pub lawful-lock_after : (rules : RuleNumbers) (i x bad first : ℕ) → IsLawfulBad rules.loss bad → 51 ≤ i → 26 * (x - first) + 25 ≤ i → 1 ≤ first → first ≤ x → x ≤ 4
    → IsLawful rules (i + 1) (Locked (lock_after i x bad first))
lawful-lock_after rules i x bad first few late enough low order high = grind (arith, common_steps, cases_eq, lock_after, lock_of, ne_eqb)

-- the numbers of a lawful lock
pub lawful-numbers : (rules : RuleNumbers) (place : ℕ) (lock : Lock) → IsLawfulLock rules place lock
    → (1 ≤ lock.first) × (lock.first ≤ lock.number) × (lock.number ≤ 4)
lawful-numbers rules place lock lawful = grind (arith, common_steps, lawful.in_order)

module _ (b : Signal) (rules : RuleNumbers) where
  -- one bit leads from a lawful state to a lawful state
  pub lawful_step : IsLossRule rules.loss → (i : ℕ) (s : State) → IsLawful rules i s → IsLawful rules (i + 1) (step b rules i s)
  lawful_step loss i s lawful = grind (arith, common_steps, acquired_range, acquired_place, lawful_none)

  -- a run leads from a lawful state to a lawful state
  pub lawful-run : IsLossRule rules.loss → (s : State) (a n : ℕ) → IsLawful rules a s → IsLawful rules (a + n) (run b rules s a n).0
  lawful-run loss s a zero lawful = let e : a ≡ a + 0 = omega arith in subst (λ (p : ℕ). IsLawful rules p s) e lawful
  lawful-run loss s a (suc n) lawful = grind (arith, common_steps, run, step, lawful_step, lawful-run loss (step b rules a s) (a + 1) n (lawful_step loss a s lawful))

  pub lawful_run_places : IsLossRule rules.loss → (s : State) (from to : ℕ) → from ≤ to → IsLawful rules from s → IsLawful rules to (run b rules s from (to - from)).0
  lawful_run_places loss s from to order lawful = grind (arith, common_steps, run, lawful-run)

-- a search up to and including the first place that acquires
module _ (b : Signal) (rules : RuleNumbers) (here x : ℕ) (e : acquired b rules here ≡ Some x) where
  pub run-acquired : (place : ℕ) → place ≤ here → NoneAcquires b rules place here → run b rules Searching place (here + 1 - place) ≡ (Locked (lock_after here x 0 x), items_at b rules here Searching)
  run-acquired place order none = run-found b rules place here order none ∙ ap (λ (s : State). (s, items_at b rules here Searching)) (step-acquiring b rules here x e)

  -- nothing is given before it
  pub quiet-acquired : (place : ℕ) → place ≤ here → NoneAcquires b rules place here → (run b rules Searching place (here + 1 - 1 - place)).1 ≡ []
  quiet-acquired place order none = let last : here + 1 - 1 ≡ here = omega arith in rw last (ap (λ (r : State × List Item). r.1) (run-unfound b rules place here order none))

  pub lawful-acquired : IsLossRule rules.loss → IsLawful rules (here + 1) (Locked (lock_after here x 0 x))
  lawful-acquired loss = subst (λ (s : State). IsLawful rules (here + 1) s) (step-acquiring b rules here x e) (lawful_step b rules loss here Searching tt)

-- the same, of windows that are left
pub record HasFound (b : Signal) (rules : RuleNumbers) (place to here x : ℕ) (left : WindowsLeft) : Type 0 where
  pub from_on : place ≤ here
  pub before : here < to
  pub late : 51 ≤ here
  pub none : NoneAcquires b rules place here
  pub there : acquired b rules here ≡ Some x
  pub run_is : run b rules Searching place (here + 1 - place) ≡ (Locked (lock_after here x 0 x), items_at b rules here Searching)
  pub left_is : left ≡ record { signal = b; next = here + 1; end = to }

pub found-first : (b : Signal) (rules : RuleNumbers) (place to here x : ℕ) (o : Offset) (old left : WindowsLeft) → x ≡ number o → old ≡ record { signal = b; next = place; end = to }
    → FindsFirst rules old (Some (here, o)) left → HasFound b rules place to here x left
found-first b rules place to here x o old left number_is is first =
    let found = subst (λ (w : WindowsLeft). FindsFirst rules w (Some (here, o)) left) is first in
    let there : acquired b rules here ≡ Some x = found.3 ∙ ap (λ (n : ℕ). Some n) (sym number_is) in
    record {
      from_on = found.0;
      before = found.1;
      late = acquired_place b rules here x there;
      none = found.2;
      there = there;
      run_is = run-acquired b rules here x there place found.0 found.2;
      left_is = found.4;
    }

-- a state that is a lawful lock
pub lawful-lock : (rules : RuleNumbers) (s : State) (place : ℕ) (lock : Lock) → s ≡ Locked lock → IsLawful rules place s → IsLawfulLock rules place lock
lawful-lock rules s place lock is lawful = subst (λ (t : State). IsLawful rules place t) is lawful

-- a lawful lock stays lawful while its block is waited for
pub lawful-waiting : (rules : RuleNumbers) (place later : ℕ) (lock : Lock) → IsLawfulLock rules place lock
    → place ≤ later → later ≤ lock.due → IsLawfulLock rules later lock
lawful-waiting rules place later lock lawful order before = grind (arith, common_steps)

-- the state after the block that is due is lawful
pub lawful-due : (b : Signal) (rules : RuleNumbers) (place : ℕ) (lock : Lock) → IsLossRule rules.loss → IsLawfulLock rules place lock
    → IsLawful rules (lock.due + 1) (step b rules lock.due (Locked lock))
lawful-due b rules place lock loss lawful = grind (arith, common_steps, lawful_step, lawful-waiting, lawful.soon.0)

pub ruleset late_and_numbered = (acquired_place, acquired_range)
