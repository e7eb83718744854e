-- Bytes that a decoder takes in two pieces give the same as at once.
use Rattle.rds_live.proofs.Names.{common_steps, ◌≡◌, ℕ, ◌+◌, ◌-◌, ◌*◌, ◌^◌, ◌≤◌, ◌⊎◌, List, [], ◌∷◌, ◌++◌, append_assoc, length, refl, sym, ap, ap₂, subst, ◌∙◌, arith, inl, inr, list_any, append-nil, length-append, length-drop, map-append, AreGaps, Signal, is_touched_by, length_of, State, Item, Totals, RuleNumbers, IsInRange, IsLawful, RunsAreLawful, RunsJoin, TotalsJoin, plus, totals_of, items_of_end, run, gaps_within, IsStreamDecoder, LiveOf, last_bytes, most_kept, signal_at, EndsMove, IsPartHeard, RunsMove, moved_item, moved_items, moved_state, most_behind, before_tail, completed, group_next, items_next, live_next, moved_back, part_with, run_next}
use Rattle.rds_live.proofs.{Following.last-ones, Following.lawful-back, Following.state_in_part, GapParts.TouchAlike, GapParts.part-touched, Nexts.live-next, Parts.bits-heard, Parts.first-part, Parts.last-part, Parts.length-at, Rooms.run-in-room}

-- moved twice
state-twice : (d k e : ℕ) (s : State) → d + k ≡ e → moved_state d (moved_state k s) ≡ moved_state e s
state-twice d k e s is = grind (arith, common_steps)

item-twice : (d k e : ℕ) (item : Item) → d + k ≡ e → moved_item d (moved_item k item) ≡ moved_item e item
item-twice d k e item is = grind (arith, common_steps)

items-twice : (d k e : ℕ) (items : List Item) → d + k ≡ e → moved_items d (moved_items k items) ≡ moved_items e items
items-twice d k e [] is = refl
items-twice d k e (item ∷ items) is = ap₂ (λ (x : Item) (xs : List Item). x ∷ xs) (item-twice d k e item is) (items-twice d k e items is)

-- back and on again
pub back-on : (rules : RuleNumbers) (d place : ℕ) (s : State) → IsLawful rules place s → d ≤ place → moved_state d (moved_back d s) ≡ s
back-on rules d place s lawful early = grind (arith, common_steps)

on-back : (rules : RuleNumbers) (d k e place : ℕ) (s : State) → IsLawful rules place s → k ≤ place → d + k ≡ e → moved_state k (moved_back e (moved_state d s)) ≡ s
on-back rules d k e place s lawful early is = grind (arith, common_steps)

-- the windows of a part of a part are touched as in the first
within-touched : (d e m n : ℕ) (gaps : List (ℕ × ℕ)) → AreGaps (2 ^ 36) gaps → m + e ≤ n → TouchAlike e m (gaps_within gaps d n) (gaps_within gaps (d + e) m)
within-touched d e m n gaps are fits i late early =
    let there : i + (d + e) ≡ i + e + d = omega arith in
    part-touched (2 ^ 36) (d + e) m gaps are i late early
    ∙ ap (λ (p : ℕ). list_any (is_touched_by p) gaps) there
    ∙ sym (part-touched (2 ^ 36) d n gaps are (i + e) (omega (arith, late)) (omega (arith, early, fits)))

pub plus-assoc : (t a b : Totals) → plus (plus t a) b ≡ plus t (plus a b)
plus-assoc t a b = grind (arith, common_steps)

-- a run leads from a lawful state to a lawful state
pub lawful-after : RunsAreLawful → (b : Signal) (rules : RuleNumbers) (s : State) (from n : ℕ) → IsInRange rules → IsLawful rules from s → IsLawful rules (from + n) (run b rules s from n).0
lawful-after lawfuls b rules s from n range lawful =
    let count : from + n - from ≡ n = omega arith in
    subst (λ (m : ℕ). IsLawful rules (from + n) (run b rules s from m).0) count (lawfuls b rules range.loss.0 s from (from + n) (omega arith) lawful)

-- the last piece up to any of its bits
module _ (joins : RunsJoin) (lawfuls : RunsAreLawful) (moves : RunsMove) (live : LiveOf) (first second : List ℕ) (n2 : ℕ) (held : n2 ≤ 8 * length second) (range : IsInRange live.terms.rules)
    (known : IsStreamDecoder live) where
  abbrev rules : RuleNumbers
  rules = live.terms.rules

  abbrev gaps : List (ℕ × ℕ)
  gaps = live.terms.gaps

  abbrev d : ℕ
  d = before_tail live

  abbrev f : ℕ
  f = 8 * length live.tail

  abbrev n1 : ℕ
  n1 = 8 * length first

  abbrev n : ℕ
  n = n1 + n2

  abbrev local : State
  local = moved_back d live.state

  abbrev one : Signal
  one = part_with live first n1

  abbrev whole : Signal
  whole = part_with live (first ++ second) n

  abbrev next : LiveOf
  next = live_next live first

  abbrev two : Signal
  two = part_with next second n2

  -- how many bytes are forgotten between the two
  abbrev k : ℕ
  k = length (live.tail ++ first) - most_kept

  abbrev f1 : ℕ
  f1 = 8 * length next.tail

  -- the state before the second
  abbrev here : State
  here = moved_back (before_tail next) next.state

  -- and after it
  abbrev last : State
  last = (run_next next second n2).0

  kept : length next.tail ≡ length (live.tail ++ first) - k
  kept = length-drop k (live.tail ++ first)

  both : length (live.tail ++ first) ≡ length live.tail + length first
  both = length-append live.tail first

  d-next : d + 8 * k ≡ before_tail next
  d-next = omega (arith, kept, both, known.kept, known.whole)

  f-next : f1 + 8 * k ≡ f + n1
  f-next = omega (arith, kept, both)

  early : (8 * k ≡ 0) ⊎ (most_behind ≤ f1)
  early = grind (arith, common_steps, kept)

  lawful : IsLawful rules f local
  lawful = grind (arith, common_steps, state_in_part, back-on)

  end-lawful : IsLawful rules (f + n1) (run_next live first n1).0
  end-lawful = lawful-after lawfuls one rules local f n1 range lawful

  -- the whole with the bytes in two
  same-whole : signal_at (gaps_within gaps d (f + n)) ((live.tail ++ first) ++ second) (f + n) ≡ whole
  same-whole = ap (λ (xs : List ℕ). signal_at (gaps_within gaps d (f + n)) xs (f + n)) (append_assoc live.tail first second)

  first-heard : IsPartHeard whole one 0 0
  first-heard =
      let none : d + 0 ≡ d = omega arith in
      let heard = bits-heard ((live.tail ++ first) ++ second) (live.tail ++ first) 0 (first-part (live.tail ++ first) second) (f + n1) (f + n) (omega (arith, both)) (omega arith)
      (gaps_within gaps d (f + n)) (gaps_within gaps (d + 0) (f + n1)) (within-touched d 0 (f + n1) (f + n) gaps known.gaps (omega arith)) 0 (inl refl) in
      subst (λ (m : ℕ). IsPartHeard whole (signal_at (gaps_within gaps m (f + n1)) (live.tail ++ first) (f + n1)) 0 0) none
      (subst (λ (b : Signal). IsPartHeard b (signal_at (gaps_within gaps (d + 0) (f + n1)) (live.tail ++ first) (f + n1)) 0 0) same-whole heard)

  second-heard : IsPartHeard whole two (8 * k) f1
  second-heard =
      let tail : List ℕ = last_bytes (live.tail ++ first) in
      let heard = bits-heard ((live.tail ++ first) ++ second) (tail ++ second) k (last-part (live.tail ++ first) second) (f1 + n2) (f + n) (omega (arith, length-append tail second, held)) (omega (arith, f-next))
      (gaps_within gaps d (f + n)) (gaps_within gaps (d + 8 * k) (f1 + n2)) (within-touched d (8 * k) (f1 + n2) (f + n) gaps known.gaps (omega (arith, f-next))) f1 early in
      subst (λ (m : ℕ). IsPartHeard whole (signal_at (gaps_within gaps m (f1 + n2)) (tail ++ second) (f1 + n2)) (8 * k) f1) d-next
      (subst (λ (b : Signal). IsPartHeard b (signal_at (gaps_within gaps (d + 8 * k) (f1 + n2)) (tail ++ second) (f1 + n2)) (8 * k) f1) same-whole heard)

  run-first : run whole rules local f n1 ≡ run_next live first n1
  run-first =
      run-in-room moves whole one rules local f n1 range first-heard lawful
      (omega (arith, length-at (gaps_within gaps d (f + n1)) (live.tail ++ first) (f + n1)))

  state-there : moved_state (8 * k) here ≡ (run_next live first n1).0
  state-there = on-back rules d (8 * k) (before_tail next) (f + n1) (run_next live first n1).0 end-lawful (omega (arith, f-next)) d-next

  here-lawful : IsLawful rules f1 here
  here-lawful = lawful-back rules (8 * k) f1 (f + n1) here (run_next live first n1).0 state-there end-lawful f-next early

  long-two : length_of two ≡ f1 + n2
  long-two = length-at (gaps_within gaps (before_tail next) (f1 + n2)) (next.tail ++ second) (f1 + n2)

  run-second : run whole rules (run_next live first n1).0 (f + n1) n2 ≡ (moved_state (8 * k) last, moved_items (8 * k) (run_next next second n2).1)
  run-second = grind (arith, common_steps, state-there, f-next, here-lawful, second-heard, long-two)

  run-both : run_next live (first ++ second) n ≡ (moved_state (8 * k) last, (run_next live first n1).1 ++ moved_items (8 * k) (run_next next second n2).1)
  run-both =
      let total : f + n - f ≡ n = omega arith in
      let front : f + n1 - f ≡ n1 = omega arith in
      let rest : f + n - (f + n1) ≡ n2 = omega arith in
      ap (λ (m : ℕ). run whole rules local f m) (sym total)
      ∙ joins whole rules local f (f + n1) (f + n) (omega arith) (omega arith)
      ∙ ap₂ (λ (a b : ℕ). (
        (run whole rules (run whole rules local f a).0 (f + n1) b).0,
        (run whole rules local f a).1 ++ (run whole rules (run whole rules local f a).0 (f + n1) b).1,
      )) front rest
      ∙ ap (λ (r : State × List Item). ((run whole rules r.0 (f + n1) n2).0, r.1 ++ (run whole rules r.0 (f + n1) n2).1)) run-first
      ∙ ap (λ (r : State × List Item). (r.0, (run_next live first n1).1 ++ r.1)) run-second

  pub state-both : moved_state d (run_next live (first ++ second) n).0 ≡ moved_state (before_tail next) last
  state-both = ap (λ (r : State × List Item). moved_state d r.0) run-both ∙ state-twice d (8 * k) (before_tail next) last d-next

  pub items-both : completed live first ++ items_next next second n2 ≡ items_next live (first ++ second) n
  items-both =
      sym (ap (λ (r : State × List Item). moved_items d r.1) run-both
      ∙ map-append (moved_item d) (run_next live first n1).1 (moved_items (8 * k) (run_next next second n2).1)
      ∙ ap (λ (xs : List Item). completed live first ++ xs) (items-twice d (8 * k) (before_tail next) (run_next next second n2).1 d-next))

  pub group-both : EndsMove → group_next next second n2 ≡ group_next live (first ++ second) n
  group-both ends =
      let heard : IsPartHeard whole two (8 * k) (length_of two) =
      record { heard_same = second-heard.heard_same; early = (elim early [ inl none ↦ inl none | inr far ↦ inr (omega (arith, far, long-two)) ]) } in
      let there = subst (λ (m : ℕ). IsLawful rules m last) (sym long-two) (lawful-after lawfuls two rules here f1 n2 range here-lawful) in
      sym (ap (λ (r : State × List Item). moved_items d (items_of_end whole rules r.0)) run-both
      ∙ ap (moved_items d) (ends whole two rules (8 * k) last there heard)
      ∙ items-twice d (8 * k) (before_tail next) (items_of_end two rules last) d-next)

-- both pieces as a whole
module _ (joins : RunsJoin) (lawfuls : RunsAreLawful) (moves : RunsMove) (live : LiveOf) (first second : List ℕ) (range : IsInRange live.terms.rules) (known : IsStreamDecoder live) where
  abbrev after : LiveOf
  after = live_next live first

  all : 8 * length first + 8 * length second ≡ 8 * length (first ++ second)
  all = omega (arith, length-append first second)

  pub completed-both : completed live first ++ completed after second ≡ completed live (first ++ second)
  completed-both = grind (arith, common_steps, items-both, all, completed)

  pub next-both : TotalsJoin → live_next after second ≡ live_next live (first ++ second)
  next-both join =
      live-next live (first ++ second) (last_bytes (after.tail ++ second)) (after.place + 8 * length second) (live_next after second).state (live_next after second).totals
      (last-ones most_kept (live.tail ++ first) second ∙ ap last_bytes (append_assoc live.tail first second))
      (omega (arith, all))
      (sym (state-both joins lawfuls moves live first second (8 * length second) (omega arith) range known) ∙ ap (λ (m : ℕ). moved_state (before_tail live) (run_next live (first ++ second) m).0) all)
      (plus-assoc live.totals (totals_of (completed live first)) (totals_of (completed after second))
      ∙ ap (λ (t : Totals). plus live.totals t)
      (sym (join (completed live first) (completed after second)).joined ∙ ap (λ (items : List Item). totals_of items) completed-both))

-- ---- no bytes

pub none_next : (live : LiveOf) → IsStreamDecoder live → plus live.totals (totals_of []) ≡ live.totals → live_next live [] ≡ live
none_next live known still = grind (arith, common_steps, live-next, append-nil, back-on)
