-- The part that is decoded next, only by the numbers of a decoder.
use Rattle.rds_live.proofs.Names.{common_steps, ◌≡◌, ℕ, ◌+◌, ◌-◌, ◌*◌, ◌≤◌, List, [], ◌++◌, append_assoc, drop, length, refl, subst, take, sym, ap, ap₂, ◌∙◌, arith, append-nil, length-append, take-append-drop, Signal, bits_of, State, Item, Totals, TotalsJoin, plus, RuleNumbers, run, items_of_end, totals_of, gaps_within, HasHeard, LiveOf, complete, last_bytes, report_at, report_of, signal_at, signal_of, IsPartHeard, RunsMove, moved_items, moved_state, EndsAreReports, IsStart, before_tail, completed, group_next, items_next, live_next, part_with, run_next, Start}
use Rattle.rds_live.proofs.{Following.totals-moved, Parts.bits-begin, Parts.length-at, Rooms.run-in-room}

-- the items do not count otherwise where they are moved
count-next : TotalsJoin → (live : LiveOf) (more : List ℕ) (bits : ℕ) → totals_of (run_next live more bits).1 ≡ totals_of (items_next live more bits)
count-next join live more bits = sym (totals-moved join (before_tail live) (run_next live more bits).1)

-- no byte after the last bit is heard
pub part-begin : (live : LiveOf) (bytes : List ℕ) (count bits : ℕ) → bits ≤ 8 * length (take count bytes) → part_with live (take count bytes) bits ≡ part_with live bytes bits
part-begin live bytes count bits held =
    let n : ℕ = 8 * length live.tail + bits in
    ap (λ (b : List ℕ). record { bits = b; gaps = gaps_within live.terms.gaps (before_tail live) n })
    (bits-begin (live.tail ++ take count bytes) (drop count bytes) n (omega (arith, held, length-append live.tail (take count bytes)))
    ∙ ap (λ (xs : List ℕ). bits_of xs n) (append_assoc live.tail (take count bytes) (drop count bytes) ∙ ap (λ (xs : List ℕ). live.tail ++ xs) (take-append-drop count bytes)))

-- the decoder's numbers after these bytes
pub live-next : (live : LiveOf) (more tail : List ℕ) (place : ℕ) (state : State) (totals : Totals) → tail ≡ last_bytes (live.tail ++ more) → place ≡ live.place + 8 * length more
    → state ≡ moved_state (before_tail live) (run_next live more (8 * length more)).0 → totals ≡ plus live.totals (totals_of (completed live more))
    → record { terms = live.terms; tail = tail; place = place; state = state; totals = totals } ≡ live_next live more
live-next live more tail place state totals tail_is place_is state_is totals_is = grind (arith, common_steps, completed)

-- what a body has of the bytes that it decodes next
module _ (live : LiveOf) (start : Start) (is : IsStart live start) where
  abbrev gaps : List (ℕ × ℕ)
  gaps = live.terms.gaps

  abbrev rules : RuleNumbers
  rules = live.terms.rules

  -- the part that is decoded up to a bit of these bytes
  pub part-is : (part : Signal) (bytes held : List ℕ) (count bits n : ℕ) → bits ≤ 8 * length (take count bytes) → n ≡ start.from + bits → held ≡ live.tail ++ take count bytes
      → part ≡ signal_at (gaps_within gaps start.before n) held n → part ≡ part_with live bytes bits
  part-is part bytes held count bits n few n_is held_is part_is = grind (arith, common_steps, part-begin)

  -- the run over it
  pub run-is : (bytes : List ℕ) (part : Signal) (bits n : ℕ) → part ≡ part_with live bytes bits → n ≡ bits → run part rules start.state start.from n ≡ run_next live bytes bits
  run-is bytes part bits n part_is n_is = grind (arith, common_steps)

  -- and over the room in which it is heard
  pub run-heard : RunsMove → (more held : List ℕ) (room : Signal) (n : ℕ) → held ≡ live.tail ++ more → n ≡ 8 * length more
      → IsPartHeard room (signal_of (gaps_within gaps start.before (8 * length held)) held) 0 0 → run room rules start.state start.from n ≡ run_next live more (8 * length more)
  run-heard moves more held room n held_is n_is heard =
      let bits : ℕ = 8 * length live.tail + 8 * length more in
      let long : 8 * length held ≡ bits = omega (arith, ap length held_is, length-append live.tail more) in
      let part_is : signal_of (gaps_within gaps start.before (8 * length held)) held ≡ part_with live more (8 * length more) =
      ap₂ (λ (d m : ℕ). signal_at (gaps_within gaps d m) held m) is.before long ∙ ap (λ (xs : List ℕ). signal_at (gaps_within gaps (before_tail live) bits) xs bits) held_is in
      run-in-room moves room (part_with live more (8 * length more)) rules start.state start.from n is.range (subst (λ (b : Signal). IsPartHeard room b 0 0) part_is heard) is.lawful
      (omega (arith, length-at (gaps_within gaps (before_tail live) bits) (live.tail ++ more) bits, is.from, n_is))
      ∙ run-is more (part_with live more (8 * length more)) (8 * length more) n refl n_is

  -- by the numbers inside the body's value, of which its contract sees `live`
  module _ (inside : LiveOf) (same : inside ≡ live) where
    pub heard-inside : RunsMove → (more pushed held : List ℕ) (room recording : Signal) → pushed ≡ inside.tail ++ more → held ≡ pushed → recording ≡ room
        → IsPartHeard room (signal_of (gaps_within inside.terms.gaps start.before (8 * length held)) held) 0 0
        → run recording inside.terms.rules start.state start.from (start.from + 8 * length more - start.from) ≡ run_next live more (8 * length more)
    heard-inside moves more pushed held room recording pushed_are held_are recording_is heard =
        grind (arith, common_steps, run-heard moves more held room (start.from + 8 * length more - start.from))

    pub part-inside : (part : Signal) (bytes held : List ℕ) (count bits n : ℕ) → bits ≤ 8 * length (take count bytes) → n ≡ start.from + bits → held ≡ inside.tail ++ take count bytes
        → part ≡ signal_at (gaps_within inside.terms.gaps start.before n) held n → part ≡ part_with live bytes bits
    part-inside part bytes held count bits n few n_is held_is part_is = grind (arith, common_steps, part-is part bytes held count bits n)

    -- the results of the run
    module _ (bytes : List ℕ) (bits : ℕ) (found : State × List Item) (there : found ≡ run_next live bytes bits) where
      pub items-inside : (given items : List Item) → given ≡ found.1 → items ≡ moved_items start.before given → items ≡ items_next live bytes bits
      items-inside given items given_is moved = grind (arith, common_steps)

      pub totals-inside : TotalsJoin → (given sum : Totals) → given ≡ totals_of found.1 → sum ≡ plus inside.totals given → sum ≡ plus live.totals (totals_of (items_next live bytes bits))
      totals-inside join given sum given_is sum_is =
          sum_is ∙ ap₂ (λ (l : LiveOf) (t : Totals). plus l.totals t) same (given_is ∙ ap (λ (r : State × List Item). totals_of r.1) there ∙ count-next join live bytes bits)

      pub group-inside : (part : Signal) (end : State) (last : List Item) → part ≡ part_with live bytes bits → end ≡ found.0 → last ≡ moved_items start.before (items_of_end part inside.terms.rules end)
          → last ≡ group_next live bytes bits
      group-inside part end last part_is end_is last_is = grind (arith, common_steps)

    -- the decoder after bytes that it has taken
    pub next-inside : TotalsJoin → (more held tail : List ℕ) (place : ℕ) (found : State × List Item) (end state : State) (given totals : Totals) → found ≡ run_next live more (8 * length more)
        → held ≡ inside.tail ++ more → tail ≡ last_bytes held → place ≡ start.before + (start.from + 8 * length more) → end ≡ found.0 → state ≡ moved_state start.before end
        → given ≡ totals_of found.1 → totals ≡ plus inside.totals given
        → record { terms = inside.terms; tail = tail; place = place; state = state; totals = totals } ≡ live_next live more
    next-inside join more held tail place found end state given totals there held_is tail_is place_is end_is state_is given_is sum_is =
        let long : place ≡ live.place + 8 * length more = omega (arith, place_is, is.before, is.from, is.known.kept, is.known.whole) in
        let sum = totals-inside more (8 * length more) found there join given totals given_is sum_is in
        grind (arith, common_steps, live-next live more tail place state totals)

  -- if the stream ends after the bytes that were heard
  pub report-now : EndsAreReports → (bytes : List ℕ) → HasHeard live bytes → complete live.terms bytes ++ group_next live [] 0 ≡ report_of live.terms bytes
  report-now reports bytes heard =
      let none : 8 * length bytes + 0 ≡ 8 * length bytes = omega arith in
      ap (λ (xs : List Item). xs ++ group_next live [] 0) (sym (append-nil (complete live.terms bytes)))
      ∙ reports live bytes [] 0 is.range is.known heard (omega arith) ∙ ap₂ (report_at live.terms) (append-nil bytes) none

-- the totals of a report
pub totals-end : TotalsJoin → (so_far sum : Totals) (items last report : List Item) → so_far ≡ totals_of items → sum ≡ plus so_far (totals_of last) → items ++ last ≡ report → sum ≡ totals_of report
totals-end join so_far sum items last report so_far_is sum_is all =
    sum_is ∙ ap (λ (t : Totals). plus t (totals_of last)) so_far_is ∙ sym (join items last).joined ∙ ap (λ (xs : List Item). totals_of xs) all
