-- The items and the state that a decoder of a heard stream gives next are those of that stream.
use Rattle.rds_live.proofs.Names.{◌≡◌, ℕ, ◌+◌, ◌*◌, ◌^◌, ◌≤◌, List, [], ◌++◌, length, refl, sym, ap, ap₂, subst, ◌∙◌, arith, inl, length-append, AreGaps, Signal, length_of, State, Searching, Item, IsLawful, IsInRange, RunsAreLawful, RunsAreReports, RunsJoin, TotalsJoin, plus, totals_of, items_of_end, run, gaps_within, LiveOf, Terms, complete, last_bytes, live_of, report_at, signal_at, EndsMove, IsPartHeard, RunsMove, PiecesJoin, completed, group_next, items_next, live_next, part_with, run_next}
use Rattle.rds_live.proofs.{Following.still-items, Following.still-state, GapParts.part-touched, Nexts.live-next, Parts.bits-heard, Parts.length-at, Parts.whole-part, Pieces.group-both, Pieces.items-both, Pieces.lawful-after, Rooms.run-in-room, Sewing.first-is}

start-heard : (gaps : List (ℕ × ℕ)) (bytes : List ℕ) (bits m : ℕ) → AreGaps (2 ^ 36) gaps → bits ≤ 8 * length bytes → m ≡ bits
    → IsPartHeard (signal_at gaps bytes bits) (signal_at (gaps_within gaps 0 m) bytes m) 0 0
start-heard gaps bytes bits m are held is =
    subst (λ (n : ℕ). IsPartHeard (signal_at gaps bytes bits) (signal_at (gaps_within gaps 0 n) bytes n) 0 0) (sym is)
    (bits-heard bytes bytes 0 (whole-part bytes) bits bits held (omega arith) gaps (gaps_within gaps 0 bits) (part-touched (2 ^ 36) 0 bits gaps are) 0 (inl refl))

-- a decoder that has heard nothing, after the first bits of these bytes
module _ (moves : RunsMove) (terms : Terms) (range : IsInRange terms.rules) (are : AreGaps (2 ^ 36) terms.gaps) (bytes : List ℕ) (bits : ℕ) (held : bits ≤ 8 * length bytes) where
  abbrev whole : Signal
  whole = signal_at terms.gaps bytes bits

  abbrev first : LiveOf
  first = live_of terms []

  abbrev part : Signal
  part = part_with first bytes bits

  heard : IsPartHeard whole part 0 0
  heard = start-heard terms.gaps bytes bits (0 + bits) are held (omega arith)

  long : length_of part ≡ 0 + bits
  long = length-at (gaps_within terms.gaps 0 (0 + bits)) bytes (0 + bits)

  run-first : run_next first bytes bits ≡ run whole terms.rules Searching 0 bits
  run-first = sym (run-in-room moves whole part terms.rules Searching 0 bits range heard tt (omega (arith, long)))

  items-first : items_next first bytes bits ≡ (run whole terms.rules Searching 0 bits).1
  items-first = still-items (run_next first bytes bits).1 ∙ ap (λ (r : State × List Item). r.1) run-first

  report-first : RunsAreLawful → EndsMove → RunsAreReports → items_next first bytes bits ++ group_next first bytes bits ≡ report_at terms bytes bits
  report-first lawfuls ends reports =
      let last : State = (run_next first bytes bits).0 in
      let lawful = subst (λ (m : ℕ). IsLawful terms.rules m last) (sym long) (lawful-after lawfuls part terms.rules Searching 0 bits range tt) in
      let at_end : group_next first bytes bits ≡ items_of_end whole terms.rules (run whole terms.rules Searching 0 bits).0 =
      sym (ends whole part terms.rules 0 last lawful (record { heard_same = heard.heard_same; early = inl refl }))
      ∙ ap (λ (s : State). items_of_end whole terms.rules s) (still-state last)
      ∙ ap (λ (r : State × List Item). items_of_end whole terms.rules r.0) run-first in
      ap₂ (λ (xs ys : List Item). xs ++ ys) items-first at_end
      ∙ ap (λ (n : ℕ). (run whole terms.rules Searching 0 n).1 ++ items_of_end whole terms.rules (run whole terms.rules Searching 0 n).0) (sym (length-at terms.gaps bytes bits))
      ∙ reports whole terms.rules range.loss.0

-- the decoder that has heard these bytes
module _ (moves : RunsMove) (join : TotalsJoin) (terms : Terms) (range : IsInRange terms.rules) (are : AreGaps (2 ^ 36) terms.gaps) where
  complete-is : (bytes : List ℕ) → complete terms bytes ≡ completed (live_of terms []) bytes
  complete-is bytes = sym (items-first moves terms range are bytes (8 * length bytes) (omega arith))

  live-is : (bytes : List ℕ) → live_of terms bytes ≡ live_next (live_of terms []) bytes
  live-is bytes =
      let nothing : LiveOf = live_of terms [] in
      let run_is = run-first moves terms range are bytes (8 * length bytes) (omega arith) in
      live-next nothing bytes (last_bytes bytes) (8 * length bytes) (live_of terms bytes).state (live_of terms bytes).totals refl (omega arith)
      (sym (still-state (run_next nothing bytes (8 * length bytes)).0 ∙ ap (λ (r : State × List Item). r.0) run_is))
      ((join [] (complete terms bytes)).joined ∙ ap (λ (items : List Item). plus (totals_of []) (totals_of items)) (complete-is bytes))

  pub next-heard : PiecesJoin → (live : LiveOf) (before bytes : List ℕ) → live ≡ live_of terms before
      → (live_next live bytes ≡ live_of terms (before ++ bytes)) × (complete terms before ++ completed live bytes ≡ complete terms (before ++ bytes))
  next-heard pieces live before bytes heard =
      let both = pieces (live_of terms []) before bytes range (first-is terms are) in
      let is = heard ∙ live-is before in (
        ap (λ (l : LiveOf). live_next l bytes) is ∙ both.0 ∙ sym (live-is (before ++ bytes)),
        ap₂ (λ (xs ys : List Item). xs ++ ys) (complete-is before) (ap (λ (l : LiveOf). completed l bytes) is) ∙ both.1 ∙ sym (complete-is (before ++ bytes)),
      )

  -- and if it ends with the first bits of these
  pub report-heard : RunsJoin → RunsAreLawful → EndsMove → RunsAreReports → (live : LiveOf) (before bytes : List ℕ) (bits : ℕ) → live ≡ live_of terms before → bits ≤ 8 * length bytes
      → complete terms before ++ items_next live bytes bits ++ group_next live bytes bits ≡ report_at terms (before ++ bytes) (8 * length before + bits)
  report-heard joins lawfuls ends reports live before bytes bits heard held =
      let nothing : LiveOf = live_of terms [] in
      let is = heard ∙ live-is before in
      ap₂ (λ (xs ys : List Item). xs ++ ys)
      (ap₂ (λ (xs ys : List Item). xs ++ ys) (complete-is before) (ap (λ (l : LiveOf). items_next l bytes bits) is) ∙ items-both joins lawfuls moves nothing before bytes bits held range (first-is terms are))
      (ap (λ (l : LiveOf). group_next l bytes bits) is ∙ group-both joins lawfuls moves nothing before bytes bits held range (first-is terms are) ends)
      ∙ report-first moves terms range are (before ++ bytes) (8 * length before + bits) (omega (arith, held, length-append before bytes)) lawfuls ends reports
