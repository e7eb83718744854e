-- A stream of symbols after further ones, and at its end.
use Rattle.rds_soft.proofs.Names.{◌≡◌, ◌+◌, ◌-◌, ◌*◌, ◌^◌, ◌<◌, ◌≤◌, ◌++◌, ◌⊎◌, ◌∙◌, ◌∷◌, common_steps, ℕ, List, [], ap, ap₂, arith, drop, inl, length, map, refl, subst, sym, All, append-nil, drop-append-le, length-append, length-drop, map-append, AreGaps, Signal, TouchAlike, length_of, AcquisitionsAreLate, RunsAreLawful, RunsAreReports, RunsGiveFewItems, RunsJoin, StepsAreLawful, IsLawful, RuleNumbers, items_of_end, run, Item, State, Searching, EndsMove, IsPartHeard, RunsMove, most_behind, moved_items, moved_state, moved_back, place_of, hard-at-most-more, lawful-back, still-items, still-state, part-touched, start-touched, run-early, back-on, SymbolsHaveWindows, item_again, symbols_of, SoftTerms, complete, read_again, report_of, run_of, signal_of, Knows, again_in, last_symbols, most_kept, moved_again, part_of, place_again, AreAtMost, SoftItem, last-ones}
use Rattle.rds_soft.{specs.declared.soft_totals.SoftTotals.SoftTotals, proofs.InsideLemmas.AllInside, proofs.InsideLemmas.end-inside, proofs.InsideLemmas.items-same, proofs.InsideLemmas.run-inside, proofs.PartLemmas.length-symbols, proofs.PartLemmas.part-heard, proofs.PartLemmas.part-symbols, proofs.SymbolLemmas.bit_count}
use Rattle.rds_sync.specs.Ranges.{IsInRange}

-- moved by nothing
still-again : (item : SoftItem) → moved_again 0 item ≡ item
still-again item = grind (arith, common_steps)

still-all : (f : Item → SoftItem) (items : List Item) → map (λ item. moved_again 0 (f item)) items ≡ map f items
still-all f [] = refl
still-all f (item ∷ items) = ap₂ (λ (x : SoftItem) (xs : List SoftItem). x ∷ xs) (still-again (f item)) (still-all f items)

-- ---- the symbols that are kept

module _ (symbols : List ℕ) where
  abbrev pub kept : List ℕ
  kept = last_symbols symbols

  abbrev pub d : ℕ
  d = length symbols - length kept

  abbrev pub from : ℕ
  from = length kept - 1

  kept-long : length kept ≡ length symbols - (length symbols - most_kept)
  kept-long = length-drop (length symbols - most_kept) symbols

  pub from-there : from + d ≡ length symbols - 1
  from-there = omega (arith, kept-long)

  pub early-enough : (d ≡ 0) ⊎ (most_behind ≤ from)
  early-enough = grind (arith, common_steps, kept-long)

  last-of : drop d symbols ≡ kept
  last-of = let cut : d ≡ length symbols - most_kept = omega (arith, kept-long) in ap (λ (n : ℕ). drop n symbols) cut

module _ (late : AcquisitionsAreLate) (steps : StepsAreLawful) (lawfuls : RunsAreLawful) (windows : SymbolsHaveWindows) (terms : SoftTerms)
    (range : IsInRange terms.rules) (are : AreGaps (2 ^ 36) terms.gaps) (symbols : List ℕ) where
  abbrev rules : RuleNumbers
  rules = terms.rules

  abbrev state : State
  state = (run_of terms symbols).0

  abbrev local : State
  local = moved_back (d symbols) state

  pub state-lawful : IsLawful rules (length symbols - 1) state
  state-lawful =
      let all : length symbols - 1 - 0 ≡ length symbols - 1 = omega arith in
      subst (λ (n : ℕ). IsLawful rules (length symbols - 1) (run (signal_of terms symbols) rules Searching 0 n).0) all
      (lawfuls (signal_of terms symbols) rules range.loss.0 Searching 0 (length symbols - 1) (omega arith) tt)

  local-is : moved_state (d symbols) local ≡ state
  local-is = back-on rules (d symbols) (length symbols - 1) state state-lawful (omega (arith, kept-long symbols))

  pub local-lawful : IsLawful rules (from symbols) local
  local-lawful = lawful-back rules (d symbols) (from symbols) (length symbols - 1) local state local-is state-lawful (from-there symbols) (early-enough symbols)

  bits-long : length_of (signal_of terms symbols) ≡ length symbols - 1
  bits-long = bit_count (symbols_of symbols) ∙ ap (λ (n : ℕ). n - 1) (length-symbols symbols)

  run-in : AllInside (length symbols - 1) (run_of terms symbols).1
  run-in = grind (arith, common_steps, run-inside)

  -- ---- the part of a stream that the kept symbols and these after them are

  module _ (more W : List ℕ) (are-all : W ≡ symbols ++ more) where
    abbrev P : List ℕ
    P = kept symbols ++ more

    abbrev part : Signal
    part = part_of terms.gaps (d symbols) P

    long : length P ≡ length (kept symbols) + length more
    long = length-append (kept symbols) more

    longer : length W ≡ length symbols + length more
    longer = ap (λ (xs : List ℕ). length xs) are-all ∙ length-append symbols more

    part-long : length_of part ≡ length P - 1
    part-long = bit_count (symbols_of P) ∙ ap (λ (n : ℕ). n - 1) (length-symbols P)

    ordered : from symbols ≤ length_of part
    ordered = omega (arith, part-long, long)

    split : drop (d symbols) W ≡ P ++ []
    split =
        ap (drop (d symbols)) are-all ∙ drop-append-le (d symbols) symbols more (omega arith)
        ∙ ap (λ (xs : List ℕ). xs ++ more) (last-of symbols) ∙ sym (append-nil P)

    reach : d symbols + length P ≤ length W
    reach = omega (arith, long, longer, kept-long symbols)

    alike : TouchAlike (d symbols) (length P - 1) terms.gaps part.gaps
    alike = part-touched (2 ^ 36) (d symbols) (length P - 1) terms.gaps are

    heard : IsPartHeard (signal_of terms W) part (d symbols) (from symbols)
    heard = part-heard windows terms.gaps part.gaps P W [] (d symbols) alike split reach (from symbols) (early-enough symbols)

    again : (items : List Item) → AllInside (length P - 1) items
        → read_again terms W (moved_items (d symbols) items) ≡ map (again_in part P terms.margin (d symbols)) items
    again items inside =
        sym (items-same part (signal_of terms W) (symbols_of P) (symbols_of W) terms.margin (length P - 1) (d symbols)
        (part-symbols windows terms.gaps part.gaps P W [] (d symbols) alike split reach) items inside)

  -- ---- after further symbols

  module _ (joins : RunsJoin) (moves : RunsMove) (more : List ℕ) where
    abbrev all : List ℕ
    all = symbols ++ more

    abbrev whole : Signal
    whole = signal_of terms all

    abbrev bits : ℕ
    bits = length_of (part more all refl) - from symbols

    abbrev found : State × List Item
    found = run (part more all refl) rules local (from symbols) bits

    here : drop 0 all ≡ symbols ++ more
    here = refl

    begins : 0 + length symbols ≤ length all
    begins = omega (arith, longer more all refl)

    heard-before : IsPartHeard whole (signal_of terms symbols) 0 0
    heard-before =
        part-heard windows terms.gaps terms.gaps symbols all more 0 (start-touched (length symbols - 1) terms.gaps) here begins 0 (inl refl)

    run-before : run whole rules Searching 0 (length symbols - 1) ≡ run_of terms symbols
    run-before =
        moves whole (signal_of terms symbols) rules 0 Searching 0 (length symbols - 1) range.loss.0 range.reach tt heard-before (omega (arith, bits-long))
        ∙ ap₂ (λ (s : State) (items : List Item). (s, items)) (still-state state) (still-items (run_of terms symbols).1)

    run-here : run whole rules state (length symbols - 1) bits ≡ (moved_state (d symbols) found.0, moved_items (d symbols) found.1)
    run-here = grind (arith, common_steps, local-is, from-there, local-lawful, heard more all refl, ordered more all refl)

    run-after : run_of terms all ≡ (moved_state (d symbols) found.0, (run_of terms symbols).1 ++ moved_items (d symbols) found.1)
    run-after =
        let total : length all - 1 - 0 ≡ length all - 1 = omega arith in
        let front : length symbols - 1 - 0 ≡ length symbols - 1 = omega arith in
        let rest : length all - 1 - (length symbols - 1) ≡ bits = omega (arith, part-long more all refl, long more all refl, longer more all refl, kept-long symbols) in
        let two = joins whole rules Searching 0 (length symbols - 1) (length all - 1) (omega arith) (omega (arith, longer more all refl)) in
        grind (arith, common_steps, total, front, rest, two, run-before, run-here)

    pub state-after : moved_state (d symbols) found.0 ≡ (run_of terms all).0
    state-after = sym (ap (λ (r : State × List Item). r.0) run-after)

    again-before : read_again terms all (run_of terms symbols).1 ≡ complete terms symbols
    again-before =
        ap (read_again terms all) (sym (still-items (run_of terms symbols).1))
        ∙ sym (items-same (signal_of terms symbols) whole (symbols_of symbols) (symbols_of all) terms.margin (length symbols - 1) 0
        (part-symbols windows terms.gaps terms.gaps symbols all more 0 (start-touched (length symbols - 1) terms.gaps) here begins)
        (run_of terms symbols).1 run-in)
        ∙ still-all (item_again (signal_of terms symbols) (symbols_of symbols) terms.margin) (run_of terms symbols).1

    found-in : AllInside (length (P more all refl) - 1) found.1
    found-in = grind (arith, common_steps, ordered more all refl, part-long more all refl, run-inside, local-lawful)

    pub complete-after : complete terms all ≡ complete terms symbols ++ map (again_in (part more all refl) (P more all refl) terms.margin (d symbols)) found.1
    complete-after = grind (arith, common_steps, run-after, map-append, again-before, again more all refl found.1 found-in)

    pub few-found : RunsGiveFewItems → length found.1 ≤ 2 * length more
    few-found few = grind (arith, common_steps, ordered more all refl, part-long more all refl, long more all refl)

    pub found-early : length all ≤ 2 ^ 36 + 1 → All (λ (item : Item). place_of item < 2 ^ 37) found.1
    found-early limit = run-early (part more all refl) rules (2 ^ 37) local (from symbols) bits (omega (arith, ordered more all refl, part-long more all refl, long more all refl, longer more all refl, limit, kept-long symbols))

  -- ---- at the end

  module _ (reports : RunsAreReports) (ends : EndsMove) where
    abbrev last : List ℕ
    last = kept symbols ++ []

    abbrev near : Signal
    near = part_of terms.gaps (d symbols) last

    nothing : symbols ≡ symbols ++ []
    nothing = sym (append-nil symbols)

    near-long : length_of near ≡ from symbols
    near-long = omega (arith, part-long [] symbols nothing, long [] symbols nothing)

    near-lawful : IsLawful rules (length_of near) local
    near-lawful = subst (λ (n : ℕ). IsLawful rules n local) (sym near-long) local-lawful

    end-heard : IsPartHeard (signal_of terms symbols) near (d symbols) (length_of near)
    end-heard = subst (λ (n : ℕ). IsPartHeard (signal_of terms symbols) near (d symbols) n) (sym near-long) (heard [] symbols nothing)

    end-moved : items_of_end (signal_of terms symbols) rules state ≡ moved_items (d symbols) (items_of_end near rules local)
    end-moved = grind (arith, common_steps, local-is, near-lawful, end-heard)

    end-in : AllInside (length last - 1) (items_of_end near rules local)
    end-in = grind (arith, common_steps, near-long, long [] symbols nothing, end-inside, near-lawful)

    end-again : read_again terms symbols (items_of_end (signal_of terms symbols) rules state)
        ≡ map (again_in near last terms.margin (d symbols)) (items_of_end near rules local)
    end-again = ap (read_again terms symbols) end-moved ∙ again [] symbols nothing (items_of_end near rules local) end-in

    pub report-closed : complete terms symbols ++ map (again_in near last terms.margin (d symbols)) (items_of_end near rules local) ≡ report_of terms symbols
    report-closed =
        let b = signal_of terms symbols in
        let both = map-append (item_again b (symbols_of symbols) terms.margin) (run_of terms symbols).1 (items_of_end b rules state) in
        grind (arith, common_steps, end-again, bits-long, both, reports b rules range.loss.0)

-- ---- by the numbers of a decoder

module _ {terms : SoftTerms} {symbols kept_now : List ℕ} {count : ℕ} {now : State} {totals : SoftTotals} (k : Knows terms symbols kept_now count now totals) where
  pub before-is : count - length kept_now ≡ d symbols
  before-is = omega (arith, k.count_is, ap (λ (xs : List ℕ). length xs) k.kept_is)

  pub from-is : length kept_now - 1 ≡ from symbols
  from-is = omega (arith, ap (λ (xs : List ℕ). length xs) k.kept_is)

  -- the run over the part is that of the stream's symbols
  pub run-is : (more : List ℕ) (part : Signal) (from_now before : ℕ) → from_now ≡ length kept_now - 1 → before ≡ count - length kept_now
      → part ≡ part_of terms.gaps before (kept_now ++ more)
      → run part terms.rules (moved_back before now) from_now (length_of part - from_now)
      ≡ run (part_of terms.gaps (d symbols) (kept symbols ++ more)) terms.rules (moved_back (d symbols) (run_of terms symbols).0) (from symbols)
      (length_of (part_of terms.gaps (d symbols) (kept symbols ++ more)) - from symbols)
  run-is more part from_now before f b is = grind (arith, common_steps, before-is, from-is)

  pub early-is : (from_now before : ℕ) → from_now ≡ length kept_now - 1 → before ≡ count - length kept_now → (before ≡ 0) ⊎ (most_behind ≤ from_now)
  early-is from_now before f b = grind (arith, common_steps, from-is, before-is, early-enough)

  pub lawful-is : AcquisitionsAreLate → StepsAreLawful → RunsAreLawful → SymbolsHaveWindows → IsInRange terms.rules → (from_now before : ℕ)
      → from_now ≡ length kept_now - 1 → before ≡ count - length kept_now → IsLawful terms.rules (from_now + before) now
  lawful-is late steps lawfuls windows range from_now before f b = grind (arith, common_steps, from-is, before-is, from-there, state-lawful)

  -- how long the part is
  part-size : (more xs : List ℕ) (part : Signal) (before : ℕ) → xs ≡ kept_now → part ≡ part_of terms.gaps before (xs ++ more) → length_of part ≡ length kept_now + length more - 1
  part-size more xs part before same is = grind (arith, common_steps, bit_count, length-symbols, length-append)

  pub part-longer : (more xs : List ℕ) (part : Signal) (from_now before : ℕ) → from_now ≡ length kept_now - 1 → xs ≡ kept_now
      → part ≡ part_of terms.gaps before (xs ++ more) → from_now ≤ length_of part
  part-longer more xs part from_now before f same is = omega (arith, f, part-size more xs part before same is)

  -- and that which is kept
  pub end-long : (xs : List ℕ) (part : Signal) (before : ℕ) → xs ≡ kept_now → part ≡ part_of terms.gaps before (xs ++ []) → length_of part ≡ length kept_now - 1
  end-long xs part before same is = omega (arith, part-size [] xs part before same is)

  -- the items and the group in progress, read again in that part, are the report's
  pub closed : AcquisitionsAreLate → StepsAreLawful → RunsAreLawful → SymbolsHaveWindows → IsInRange terms.rules → RunsAreReports → EndsMove
      → (part : Signal) (xs : List ℕ) (before : ℕ) → before ≡ count - length kept_now → part ≡ part_of terms.gaps before (kept_now ++ []) → xs ≡ kept_now ++ []
      → complete terms symbols ++ map (again_in part xs terms.margin before) (items_of_end part terms.rules (moved_back before now)) ≡ report_of terms symbols
  closed late steps lawfuls windows range reports ends part xs before b is xs_is =
      grind (arith, common_steps, before-is, report-closed late steps lawfuls windows terms range k.gaps symbols reports ends)

  -- the last symbols after further ones
  pub kept-after : (more : List ℕ) → last_symbols (kept_now ++ more) ≡ last_symbols (symbols ++ more)
  kept-after more = ap (λ (xs : List ℕ). last_symbols (xs ++ more)) k.kept_is ∙ last-ones most_kept symbols more

-- counts that are at most a number are at most a greater one
pub at-most-more : (m n : ℕ) (t : SoftTotals) → m ≤ n → AreAtMost m t → AreAtMost n t
at-most-more m n t more few = grind (arith, common_steps, hard-at-most-more)

-- ---- places

pub place-stays : (b : Signal) (symbols : List ℕ) (margin : ℕ) (item : Item) → place_again (item_again b (symbols_of symbols) margin item) ≡ place_of item
unfolding item_again
place-stays b symbols margin item = grind (arith, common_steps)
