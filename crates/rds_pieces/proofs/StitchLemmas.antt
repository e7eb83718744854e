-- A run that is carried over runs that follow each other, from place 0 to the recording's end.
use Rattle.rds_pieces.proofs.Names.{common_steps, ◌≡◌, ◌≢◌, ℕ, ◌+◌, ◌-◌, ◌*◌, ◌<◌, ◌≤◌, ◌^◌, List, [], ◌∷◌, ◌++◌, length, get_or, drop, Option, Some, refl, sym, ap, ap₂, ◌∙◌, subst, arith, append-nil, mul-le, drop_more, drop_all, Signal, length_of, State, Searching, Locked, Item, Totals, IsAtMost, FitTogether, totals_of, RuleNumbers, IsInRange, IsLawful, IsBetweenGroups, report_items, IsLossRule, run, items_of_end, IsMeeting, MeetAt, RunOf, FollowEachOther, RunLaws, seam_reads, IsSumOfReads}
use Rattle.rds_pieces.proofs.SmallTotals.{per_bit, at_most_more, run_at_most, totals_of_two}

-- runs that follow each other are between the places
pub follow_inside : (b : Signal) (rules : RuleNumbers) (from to : ℕ) (runs : List RunOf) → FollowEachOther b rules from to runs → from ≤ to
follow_inside b rules from to [] h = omega (arith, h)
follow_inside b rules from to (r ∷ rs) h = let l = follow_inside b rules r.to to rs h.2 in omega (arith, h.1, l)

-- so a seam over some place reads at most 20 windows a place
pub few_reads : (b : Signal) (rules : RuleNumbers) (s : State) (from to : ℕ) (met : Option ℕ) → rules.reach ≤ 8 → from < to → IsMeeting b rules s Searching from to met
    → seam_reads rules from to met ≤ 20 * (to - from)
few_reads b rules s from to met reach some h = grind (arith, common_steps, mul-le)

-- over no place a run and the guess meet if the run searches
pub meeting_at_once : (b : Signal) (rules : RuleNumbers) (s : State) (from to : ℕ) → from ≡ to → (met : Option ℕ) × IsMeeting b rules s Searching from to met
meeting_at_once b rules Searching from to e =
    let none : from - from ≡ 0 = omega arith in
    let here : MeetAt b rules Searching Searching from to from = record {
      inside = (omega arith, omega (arith, e));
      same = refl;
      between = subst (λ (n : ℕ). IsBetweenGroups (run b rules Searching from n).0) (sym none) tt;
    } in
    (Some from, record { here = here; least = λ q below there. omega (arith, below, there.inside) })
meeting_at_once b rules (Locked lock) from to e = grind (arith, common_steps)

module _ (b : Signal) (rules : RuleNumbers) (runs : List RunOf) where
  -- the progress once the state was carried over the first k runs
  pub record IsStitched (base k : ℕ) (state : State) (items : List Item) (reads : ℕ) : Type 0 where
    pub place : ℕ
    pub sum : ℕ
    pub follow : FollowEachOther b rules place (length_of b) (drop k runs)
    pub state_is : state ≡ (run b rules Searching 0 (place - 0)).0
    pub items_are : items ≡ (run b rules Searching 0 (place - 0)).1
    pub lawful : IsLawful rules place state
    pub reads_most : reads ≤ base + sum
    pub few : reads ≤ base + 20 * place
    pub sums : (n : ℕ) → IsSumOfReads b rules state (drop k runs) n → IsSumOfReads b rules Searching runs (sum + n)
    -- of what all seams may read, as much is left as those of the runs to come may
    pub left_to_read : (n : ℕ) → IsSumOfReads b rules Searching runs n → (m : ℕ) × IsSumOfReads b rules state (drop k runs) m × (reads + m ≤ base + n)

module _ {b : Signal} {rules : RuleNumbers} {runs : List RunOf} {base k : ℕ} {state : State} {items : List Item} {reads : ℕ} (done : IsStitched b rules runs base k state items reads) where
  module _ {r : RunOf} (d : RunOf) (inside : k < length runs) (is : r ≡ get_or runs k d) where
    -- the runs that are left begin with run k
    left : drop k runs ≡ r ∷ drop (k + 1) runs
    left = drop_more runs k d inside ∙ ap (λ (x : RunOf). x ∷ drop (k + 1) runs) (sym is)

    abbrev pub Next : Type 0
    Next = FollowEachOther b rules done.place (length_of b) (r ∷ drop (k + 1) runs)

    pub next_follows : Next
    next_follows = subst (λ (rs : List RunOf). FollowEachOther b rules done.place (length_of b) rs) left done.follow

    -- the conditions of a seam on run k
    pub source_is : r.source ≡ b
    source_is = ap (λ (x : RunOf). x.source) next_follows.0

    pub rules_are : r.rules ≡ rules
    rules_are = ap (λ (x : RunOf). x.rules) next_follows.0

    pub from_is : r.from ≡ done.place
    from_is = ap (λ (x : RunOf). x.from) next_follows.0

    pub to_inside : r.to ≤ length_of b
    to_inside = follow_inside b rules r.to (length_of b) (drop (k + 1) runs) next_follows.2

    pub lawful_here : IsLawful rules r.from state
    lawful_here = subst (λ (p : ℕ). IsLawful rules p state) (sym from_is) done.lawful

    -- its totals and those before fit into one word
    pub fits_next : RunLaws → IsInRange rules → length_of b ≤ 2 ^ 36 → (t u : Totals) → t ≡ totals_of items → u ≡ totals_of (run b rules state r.from (r.to - r.from)).1 → FitTogether t u
    fits_next laws range bits t u t_is u_is =
        totals_of_two b rules laws.readings range.burst laws.totals Searching state 0 (done.place - 0) r.from (r.to - r.from) (omega (arith, next_follows.1, from_is, to_inside, bits)) t u
        (t_is ∙ ap (λ (is : List Item). totals_of is) done.items_are) u_is

    -- what its seam reads is among what was left, whether or not it comes to an end
    pub seam_paid : (reads2 : ℕ) → ((met : Option ℕ) → IsMeeting b rules state Searching r.from r.to met → reads2 ≤ reads + seam_reads rules r.from r.to met)
        → (n : ℕ) → IsSumOfReads b rules Searching runs n
        → (m : ℕ) × IsSumOfReads b rules (run b rules state r.from (r.to - r.from)).0 (drop (k + 1) runs) m × (reads2 + m ≤ base + n)
    seam_paid reads2 way n h =
        let all = done.left_to_read n h in
        let next : IsSumOfReads b rules state (r ∷ drop (k + 1) runs) all.0 = subst (λ (rs : List RunOf). IsSumOfReads b rules state rs all.0) left all.1 in
        (next.1, next.3, omega (arith, way next.0 next.2, next.4, all.2))

    -- what some places may read, a meeting among them
    pub seam_few : IsInRange rules → r.from ≢ r.to → (reads2 : ℕ) (met : Option ℕ) → IsMeeting b rules state Searching r.from r.to met
        → reads2 ≤ reads + seam_reads rules r.from r.to met → reads2 ≤ reads + 20 * (r.to - r.from)
    seam_few range some reads2 met meeting read = grind (arith, common_steps, from_is, few_reads)

    pub seam_within : (reads2 : ℕ) → ((met : Option ℕ) → IsMeeting b rules state Searching r.from r.to met → reads2 ≤ reads + seam_reads rules r.from r.to met)
        → (n : ℕ) → IsSumOfReads b rules Searching runs n → reads2 ≤ base + n
    seam_within reads2 way n h = let most = (seam_paid reads2 way n h).2 in omega (arith, most)

    pub stitched_on : RunLaws → IsInRange rules → (after : State) (items2 : List Item) (reads2 : ℕ) (met : Option ℕ)
        → after ≡ (run b rules state r.from (r.to - r.from)).0 → items2 ≡ items ++ (run b rules state r.from (r.to - r.from)).1
        → IsMeeting b rules state Searching r.from r.to met → reads2 ≤ reads + seam_reads rules r.from r.to met → reads2 ≤ reads + 20 * (r.to - r.from)
        → ((met : Option ℕ) → IsMeeting b rules state Searching r.from r.to met → reads2 ≤ reads + seam_reads rules r.from r.to met) → IsStitched b rules runs base (k + 1) after items2 reads2
    stitched_on laws range after items2 reads2 met after_is items2_are meeting read few way =
        let n = next_follows.1 in
        let f = from_is in
        let whole = laws.join b rules Searching 0 done.place r.to (omega arith) (omega (arith, n, f)) in
        let state_on : after ≡ (run b rules Searching 0 (r.to - 0)).0 =
        after_is ∙ ap₂ (λ (s : State) (p : ℕ). (run b rules s p (r.to - p)).0) done.state_is f ∙ sym (ap (λ (x : State × List Item). x.0) whole) in
        record {
          place = r.to;
          sum = done.sum + seam_reads rules r.from r.to met;
          follow = next_follows.2;
          state_is = state_on;
          items_are = items2_are ∙ ap₂ (λ (is js : List Item). is ++ js) done.items_are (ap₂ (λ (s : State) (p : ℕ). (run b rules s p (r.to - p)).1) done.state_is f)
              ∙ sym (ap (λ (x : State × List Item). x.1) whole);
          lawful = subst (λ (s : State). IsLawful rules r.to s) (sym after_is) (laws.lawful_runs b rules range.loss.0 state r.from r.to (omega (arith, n, f)) lawful_here);
          reads_most = let m = done.reads_most in omega (arith, m, read);
          few = let l = done.few in omega (arith, l, few, n, f);
          sums = λ m h.
              let total : done.sum + (seam_reads rules r.from r.to met + m) ≡ done.sum + seam_reads rules r.from r.to met + m = omega arith in
              let rest = subst (λ (s : State). IsSumOfReads b rules s (drop (k + 1) runs) m) after_is h in
              let here : IsSumOfReads b rules state (r ∷ drop (k + 1) runs) (seam_reads rules r.from r.to met + m) = (met, m, meeting, rest, refl) in
              subst (λ (t : ℕ). IsSumOfReads b rules Searching runs t) total
              (done.sums (seam_reads rules r.from r.to met + m) (subst (λ (rs : List RunOf). IsSumOfReads b rules state rs (seam_reads rules r.from r.to met + m)) (sym left) here));
          left_to_read = λ n h.
              let rest = seam_paid reads2 way n h in
              (rest.0, subst (λ (s : State). IsSumOfReads b rules s (drop (k + 1) runs) rest.0) (sym after_is) rest.1, rest.2);
        }

    -- a run over no place is passed over
    pub stitched_past : RunLaws → IsInRange rules → r.from ≡ r.to → IsStitched b rules runs base (k + 1) state items reads
    stitched_past laws range none =
        let no_bits : 0 ≡ r.to - r.from = omega (arith, none) in
        let meeting = meeting_at_once b rules state r.from r.to none in
        stitched_on laws range state items reads meeting.0 (ap (λ (n : ℕ). (run b rules state r.from n).0) no_bits)
        (sym (append-nil items) ∙ ap (λ (n : ℕ). items ++ (run b rules state r.from n).1) no_bits) meeting.1 (omega arith) (omega arith) (λ met first. omega arith)

  -- once it was carried over all
  module _ (all : length runs ≤ k) where
    none_left : drop k runs ≡ []
    none_left = drop_all k runs all

    pub end_is : done.place ≡ length_of b
    end_is = subst (λ (rs : List RunOf). FollowEachOther b rules done.place (length_of b) rs) none_left done.follow

    pub state_at_end : state ≡ (run b rules Searching 0 (length_of b - 0)).0
    state_at_end = done.state_is ∙ ap (λ (p : ℕ). (run b rules Searching 0 (p - 0)).0) end_is

    pub items_at_end : items ≡ (run b rules Searching 0 (length_of b - 0)).1
    items_at_end = done.items_are ∙ ap (λ (p : ℕ). (run b rules Searching 0 (p - 0)).1) end_is

    -- with the item of the end they are the report's
    pub whole_at_end : RunLaws → IsLossRule rules.loss → items ++ items_of_end b rules state ≡ report_items b rules
    whole_at_end laws loss =
        let bits : length_of b - 0 ≡ length_of b = omega arith in
        ap₂ (λ (is : List Item) (s : State). is ++ items_of_end b rules s) items_at_end state_at_end
        ∙ ap (λ (n : ℕ). (run b rules Searching 0 n).1 ++ items_of_end b rules (run b rules Searching 0 n).0) bits
        ∙ laws.reports b rules loss

    pub small_at_end : RunLaws → IsInRange rules → length_of b ≤ 2 ^ 36 → (t : Totals) → t ≡ totals_of items → IsAtMost (per_bit * 2 ^ 36) t
    small_at_end laws range bits t t_is =
        let most : per_bit * (length_of b - 0) ≤ per_bit * 2 ^ 36 = omega (arith, bits) in
        subst (λ (x : Totals). IsAtMost (per_bit * 2 ^ 36) x) (sym (t_is ∙ ap (λ (is : List Item). totals_of is) items_at_end))
        (at_most_more (per_bit * (length_of b - 0)) (per_bit * 2 ^ 36) _ most (run_at_most b rules laws.readings range.burst laws.totals Searching 0 (length_of b - 0)))

    pub lawful_at_end : IsLawful rules (length_of b) state
    lawful_at_end = subst (λ (p : ℕ). IsLawful rules p state) end_is done.lawful

    pub read_at_end : (n : ℕ) → IsSumOfReads b rules Searching runs n → reads ≤ base + n
    read_at_end n h = let most = (done.left_to_read n h).2 in omega (arith, most)

    pub sum_at_end : IsSumOfReads b rules Searching runs done.sum
    sum_at_end =
        let e : done.sum + 0 ≡ done.sum = omega arith in
        subst (λ (t : ℕ). IsSumOfReads b rules Searching runs t) e (done.sums 0 (subst (λ (rs : List RunOf). IsSumOfReads b rules state rs 0) (sym none_left) refl))
