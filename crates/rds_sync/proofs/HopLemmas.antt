-- A part of a run over a tape is a hop: bits that give nothing lead to no state between groups but the one that they began in.
use Rattle.rds_sync.proofs.Names.{◌≡◌, ◌≢◌, ℕ, zero, suc, ◌+◌, ◌-◌, ◌*◌, ◌<◌, ◌≤◌, ◌⊎◌, List, [], ◌++◌, refl, sym, ap, ap₂, ◌∙◌, subst, arith, inl, inr, cases_eq, Signal, Lock, State, Searching, Locked, Item, IsHop, IsPaidHop, IsLawful, IsBetweenGroups, ItemsMarkChanges, IsLossRule, RuleNumbers, run, step, items_at, common_steps, cases_lt, lt-ltb, le-ltb, Step, next_place, IsStretch, ◌^◌, length, append_assoc, append-nil, length-append, length_of, IsAtMost, IsCountStretch, CountOf, count_of, joined, IsTally, TallyOf, gone_on, StretchesAreSteps, HopsAreStretches}
use Rattle.rds_sync.proofs.{RunLemmas.none-of, RunLemmas.lawful_step, RunLemmas.run_places, RunLemmas.run_waiting, RunLemmas.run-further, TotalsLemmas.counted-together, RunIsReport.run_items_few}

same_state : (s t : State) → (s ≡ t) ⊎ (s ≢ t)
same_state Searching Searching = inl refl
same_state Searching (Locked lock) = inr (λ e. cc)
same_state (Locked lock) Searching = inr (λ e. cc)
same_state (Locked lock) (Locked lock2) = elim (cases_eq lock.due lock2.due) [
  | inr other ↦ inr (λ e. other cc)
  | inl one ↦ elim (cases_eq lock.number lock2.number) [
    | inr other ↦ inr (λ e. other cc)
    | inl two ↦ elim (cases_eq lock.bad lock2.bad) [
      | inr other ↦ inr (λ e. other cc)
      | inl three ↦ elim (cases_eq lock.first lock2.first) [
        | inr other ↦ inr (λ e. other cc)
        | inl four ↦ inl (
            ap₂ (λ (d x : ℕ). Locked (record lock { due = d; number = x })) one two
            ∙ ap₂ (λ (b f : ℕ). Locked (record lock2 { bad = b; first = f })) three four
            )
      ]
    ]
  ]
]

module _ (changes : ItemsMarkChanges) (b : Signal) (rules : RuleNumbers) (some : IsLossRule rules.loss) where
  between_same : (s : State) (a n : ℕ) → IsLawful rules a s → (run b rules s a n).1 ≡ [] → IsBetweenGroups (run b rules s a n).0 → (run b rules s a n).0 ≡ s
  between_same s a zero lawful none between = refl
  between_same s a (suc n) lawful none between =
      let nothing = none-of (items_at b rules a s) _ none in
      let rest = between_same (step b rules a s) (a + 1) n (lawful_step b rules some a s lawful) nothing.1 between in
      elim (same_state (step b rules a s) s) [
        | inl same ↦ rest ∙ same
        | inr other ↦ absurd ((changes b rules a s lawful).1 (other, inr (subst IsBetweenGroups rest between)) nothing.0)
      ]

  quiet_of : (s : State) (place next : ℕ) → IsLawful rules place s → (run b rules s place (next - 1 - place)).1 ≡ []
      → (n : ℕ) → place + n < next → IsBetweenGroups (run b rules s place n).0 → (run b rules s place n).0 ≡ s
  quiet_of s place next lawful none n h between =
      let first : place + n - place ≡ n = omega arith in
      let joined = run_places b rules s place (place + n) (next - 1) (omega arith) (omega (arith, h)) in
      let parts = sym (ap (λ (r : State × List Item). r.1) joined) ∙ none in
      let before = (none-of (run b rules s place (place + n - place)).1 _ parts).0 in
      between_same s place n lawful (ap (λ (k : ℕ). (run b rules s place k).1) (sym first) ∙ before) between

  pub hop-is : (s t : State) (place near to next : ℕ) (after : State) (reads : ℕ) → s ≡ t → IsLawful rules place s → place < next → next ≤ to
      → after ≡ (run b rules t place (next - place)).0 → (run b rules t place (next - 1 - place)).1 ≡ [] → IsPaidHop b rules t place near next after reads
      → IsHop b rules s place near to next after reads
  hop-is s t place near to next after reads same lawful ahead within is none paid =
      subst (λ (u : State). IsHop b rules u place near to next after reads) (sym same) (record {
        moved = (ahead, within);
        state_is = is;
        quiet = quiet_of t place next (subst (λ (u : State). IsLawful rules place u) same lawful) none;
        paid = paid;
      })

-- A stretch of a run, step by step.
module _ (b : Signal) (rules : RuleNumbers) (s : State) (place to : ℕ) (reached : Step) (is : IsStretch b rules s place to reached) where
  -- from a place before its end on
  later : (middle : ℕ) → place ≤ middle → middle < reached.place
      → ((run b rules s place (middle - place)).1 ≡ []) × IsStretch b rules (run b rules s place (middle - place)).0 middle to reached
  later middle low high = grind (arith, common_steps, run_places, none-of, run_places b rules s place middle (reached.place - 1) low (omega arith))

-- a lock's stretch ends after the block that is due, or at the range's end
past-due : (b : Signal) (rules : RuleNumbers) (lock : Lock) (place to : ℕ) (reached : Step) → IsStretch b rules (Locked lock) place to reached
    → reached.place ≤ lock.due → reached.place ≡ to
past-due b rules lock place to reached is early = grind (arith, common_steps, run_waiting, is.items, reached.place, is.forward, is.ended)

pub stretches_are_steps : StretchesAreSteps
stretches_are_steps b rules Searching place to reached lawful is = (omega (arith, is.forward), later b rules Searching place to reached is (place + 1) (omega arith))
stretches_are_steps b rules (Locked lock) place to reached lawful is = elim (cases_lt lock.due to) [
  | inl before ↦ rw (next_place, lt-ltb lock.due to before) (
    (elim (cases_lt lock.due reached.place) [
      | inl past ↦ omega (arith, past)
      | inr early ↦ let at = past-due b rules lock place to reached is early in omega (arith, before, at)
    ]),
    λ more. later b rules (Locked lock) place to reached is (lock.due + 1) (omega (arith, lawful.soon)) more,
  )
  | inr after ↦ grind (arith, common_steps, reached.place, past-due, is.limit, next_place, le-ltb, lock.due, past-due b rules lock place to reached is (omega (arith, is.limit, after)), le-ltb lock.due to after)
]

pub hops_are_stretches : HopsAreStretches
hops_are_stretches b rules s after place near to reads reached hop is = hop.state_is ∙ sym is.state

-- A run that goes on, as it is kept.

-- a part of a run, by other names of its recording and its rules
stretch-over : {b read : Signal} {rules numbers : RuleNumbers} {s : State} {place to : ℕ} {before after : CountOf} {reached : ℕ × State} → b ≡ read → rules ≡ numbers
    → IsCountStretch read numbers s place to before reached after → IsCountStretch b rules s place to before reached after
stretch-over {read = read} {rules = rules} {s = s} {place = place} {to = to} {before = before} {after = after} {reached = reached} source same came = grind (arith, common_steps)

module _ {b : Signal} {rules : RuleNumbers} {list : List Item} {a : ℕ} {s : State} {place : ℕ} {t : State} {first counts : CountOf}
    (is : IsTally b rules list a s place t first counts) where
  abbrev so_far : State × List Item
  so_far = run b rules s a (place - a)

  -- a span of the items since the last one
  pub tally-cut : (longer : List Item) → longer ≡ list ++ so_far.1 → IsTally b rules longer place t place t first counts
  tally-cut longer longer_is =
      let none : place - place ≡ 0 = omega arith in
      let nothing : longer ++ (run b rules t place (place - place)).1 ≡ list ++ so_far.1 =
      ap (λ (n : ℕ). longer ++ (run b rules t place n).1) none ∙ append-nil longer ∙ longer_is in
      record {
        start = is.lawful;
        order = omega arith;
        within = is.within;
        near = is.near;
        state = sym (ap (λ (n : ℕ). (run b rules t place n).0) none);
        lawful = is.lawful;
        count = is.count ∙ ap (λ (is : List Item). count_of is) (sym nothing);
        few = subst (λ (is : List Item). length is ≤ 2 * place) (sym nothing) is.few;
        counted = is.counted;
        small = is.small;
      }

  -- the run at a later place
  module _ {old : TallyOf} {read : Signal} {numbers : RuleNumbers} {to : ℕ} {reached : ℕ × State} {after : CountOf}
      (old_is : record { source = b; rules = rules; place = place; state = t; list = list ++ so_far.1 } ≡ old) (source : old.source ≡ read)
      (same : old.rules ≡ numbers) (heard : IsCountStretch read numbers t place to counts reached after) where
    signal-is : b ≡ read
    signal-is = ap (λ (v : TallyOf). v.source) old_is ∙ source

    came : IsCountStretch b rules t place to counts reached after
    came = stretch-over signal-is (ap (λ (v : TallyOf). v.rules) old_is ∙ same) heard

    abbrev more : List Item
    more = (run b rules t place (reached.0 - place)).1

    all-is : run b rules s a (reached.0 - a) ≡ (reached.1, so_far.1 ++ more)
    all-is = run-further b rules s t reached.1 so_far.1 more a place reached.0 is.order (omega (arith, came.forward)) (ap (λ (v : State). (v, so_far.1)) (sym is.state)) came.state refl

    list-gone : list ++ (run b rules s a (reached.0 - a)).1 ≡ (list ++ so_far.1) ++ more
    list-gone = ap (λ (r : State × List Item). list ++ r.1) all-is ∙ sym (append_assoc list so_far.1 more)

    pub tally-gone : to ≤ length_of read → to ≤ 2 ^ 36 → (first2 counts2 : CountOf) → joined first2 counts2 ≡ joined first after → counts2.items ≤ 3000
        → IsAtMost (2 ^ 10 * first2.items) first2.totals → IsTally b rules list a s reached.0 reached.1 first2 counts2
    tally-gone within near first2 counts2 joined_is few small = record {
      start = is.start;
      order = omega (arith, is.order, came.forward);
      within = omega (arith, came.limit, within, ap (λ (s : Signal). length_of s) signal-is);
      near = omega (arith, came.limit, near);
      state = sym (ap (λ (r : State × List Item). r.0) all-is);
      lawful = came.lawful;
      count = joined_is ∙ ap (λ (k : CountOf). joined first k) came.counts
          ∙ counted-together first counts (list ++ so_far.1) more is.count
          ∙ ap (λ (is : List Item). count_of is) (sym list-gone);
      few = subst (λ (is : List Item). length is ≤ 2 * reached.0) (sym list-gone)
          (omega (arith, length-append (list ++ so_far.1) more, is.few, run_items_few b rules t place (reached.0 - place), came.forward));
      counted = few;
      small = small;
    }

    -- as callers see it: `old` is the run before, and `new` at the later place
    pub view-gone : (new : TallyOf)
        → new ≡ record { source = b; rules = rules; place = reached.0; state = reached.1; list = list ++ (run b rules s a (reached.0 - a)).1 }
        → new ≡ gone_on old new.place
    view-gone new new_is = grind (arith, common_steps, list-gone, gone_on, new.place)

-- a run that has not gone on
pub gone-none : (t : TallyOf) → gone_on t t.place ≡ t
gone-none t = grind (arith, common_steps, run, append-nil, t.place, t.source, t.rules, t.state, t.list)

-- one that has gone on twice
pub gone-again : (t : TallyOf) (middle to : ℕ) → t.place ≤ middle → middle ≤ to → gone_on (gone_on t middle) to ≡ gone_on t to
gone-again t middle to low high = grind (arith, common_steps, run, append_assoc, run_places, t.source, t.rules, t.state, t.place, t.list)
