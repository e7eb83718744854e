-- Recordings that are heard alike have one report.
use Rattle.rds_tool.proofs.Names.{common_steps, ◌≡◌, ℕ, zero, suc, ◌+◌, ◌-◌, ◌*◌, ◌/◌, ◌%◌, ◌<◌, ◌≤◌, ◌++◌, List, [], ◌∷◌, Bool, true, false, Option, Some, None, drop, take, length, map, refl, sym, ap, ap₂, ◌∙◌, subst, arith, or_parts, nat_tests, length-append, length-map-range_with_len, get_or-append, bit_at, list_any, range_with_len, nat_le, nat_lt, ◌&&◌, EndsMove, IsPartHeard, RunsMove, moved_item, moved_items, moved_state, Terms, complete, run_of, signal_at, signal_of, Signal, bits_of, heard, is_touched_by, length_of, packed_bit, touched, window, RunsAreLawful, RunsAreReports, RunsJoin, IsLawful, IsLossRule, report_items, RuleNumbers, items_of_end, run, Item, Lock, State, Locked, Searching, DifferInGaps, is_in_gap}
use Rattle.std.specs.Int.Digits.{number_from_digits}
use Rattle.rds_sync.specs.Ranges.{farthest_reach}

-- ---- windows

-- the k elements from a on of two tabulated lists
part_alike : (f g : ℕ → ℕ) (from n m a k : ℕ) → a + k ≤ n → a + k ≤ m → ((j : ℕ) → from + a ≤ j → j < from + a + k → f j ≡ g j)
    → take k (drop a (map f (range_with_len from n))) ≡ take k (drop a (map g (range_with_len from m)))
part_alike f g from n m zero zero hn hm same = refl
part_alike f g from zero m zero (suc k) hn hm same = absurd (omega (arith, hn))
part_alike f g from (suc n) zero zero (suc k) hn hm same = absurd (omega (arith, hm))
part_alike f g from (suc n) (suc m) zero (suc k) hn hm same = grind (arith, common_steps, part_alike f g (from + 1) n m zero k (omega (arith, hn)) (omega (arith, hm)) (λ j low high. same j (omega (arith, low)) (omega (arith, high))))
part_alike f g from zero m (suc a) k hn hm same = absurd (omega (arith, hn))
part_alike f g from (suc n) zero (suc a) k hn hm same = absurd (omega (arith, hm))
part_alike f g from (suc n) (suc m) (suc a) k hn hm same = grind (arith, common_steps, part_alike f g (from + 1) n m a k (omega (arith, hn)) (omega (arith, hm)) (λ j low high. same j (omega (arith, low)) (omega (arith, high))))

windows_alike : (xs ys : List ℕ) (n m i : ℕ) → 25 ≤ i → i < n → i < m → ((j : ℕ) → i ≤ j + 25 → j ≤ i → packed_bit xs j ≡ packed_bit ys j)
    → window (bits_of xs n) i ≡ window (bits_of ys m) i
unfolding window
windows_alike xs ys n m i late hn hm same =
    ap (number_from_digits 2) (part_alike (packed_bit xs) (packed_bit ys) 0 n m (i - 25) (i + 1 - (i - 25)) (omega (arith, late, hn)) (omega (arith, late, hm))
    (λ j low high. same j (omega (arith, low, late)) (omega (arith, high, late))))

-- a place of a window that touches no gap is in none
outside : (gaps : List (ℕ × ℕ)) (i j : ℕ) → 25 ≤ i → i ≤ j + 25 → j ≤ i → list_any (is_touched_by i) gaps ≡ false → is_in_gap gaps j ≡ false
outside [] i j late low high h = refl
outside (gap ∷ gaps) i j late low high h =
    let here : (nat_le gap.0 i && nat_lt (i - 25) gap.1) ≡ false = (or_parts (is_touched_by i gap) (list_any (is_touched_by i) gaps) h).0 in
    let rest : is_in_gap gaps j ≡ false = outside gaps i j late low high (or_parts (is_touched_by i gap) (list_any (is_touched_by i) gaps) h).1 in
    let no : (nat_le gap.0 j && nat_lt j gap.1) ≡ false = grind (arith, nat_tests, here, late, low, high) in
    rw (no, rest) refl

heard_alike : (gaps : List (ℕ × ℕ)) (xs ys : List ℕ) (n m i : ℕ) → 25 ≤ i → i < n → i < m
    → ((j : ℕ) → i ≤ j + 25 → j ≤ i → is_in_gap gaps j ≡ false → packed_bit xs j ≡ packed_bit ys j)
    → heard (signal_at gaps xs n) i ≡ heard (signal_at gaps ys m) i
unfolding heard touched
heard_alike gaps xs ys n m i late hn hm same = at_case (list_any (is_touched_by i) gaps) refl where
  at_case : (t : Bool) → list_any (is_touched_by i) gaps ≡ t
      → elim t as (λ _. Option ℕ) [ true ↦ None | false ↦ Some (window (bits_of xs n) i) ] ≡ elim t as (λ _. Option ℕ) [ true ↦ None | false ↦ Some (window (bits_of ys m) i) ]
  at_case true e = refl
  at_case false e = ap (λ (w : ℕ). Some w) (windows_alike xs ys n m i late hn hm (λ j low high. same j low high (outside gaps i j late low high e)))

-- ---- runs and reports

lock_same : (lock : Lock) (due : ℕ) → due ≡ lock.due → Locked (record lock { due = due }) ≡ Locked lock
lock_same lock due same = ap (λ (d : ℕ). Locked (record lock { due = d })) same

unmoved_state : (s : State) → moved_state 0 s ≡ s
unmoved_state s = grind (arith, common_steps, lock_same)

unmoved_item : (item : Item) → moved_item 0 item ≡ item
unmoved_item item = grind (arith, common_steps)

unmoved_items : (items : List Item) → moved_items 0 items ≡ items
unmoved_items [] = refl
unmoved_items (item ∷ items) = ap₂ (λ (x : Item) (xs : List Item). x ∷ xs) (unmoved_item item) (unmoved_items items)

-- the first bits of the whole are heard as in the part
abbrev IsHeardAlike : Signal → Signal → Type 0
IsHeardAlike whole part = (i : ℕ) → 25 ≤ i → i < length_of part → heard part i ≡ heard whole i

part_heard : (whole part : Signal) (from : ℕ) → IsHeardAlike whole part → IsPartHeard whole part 0 from
part_heard whole part from same = grind (arith, common_steps, heard)

-- the run over the part is that over the whole
pub runs_alike : RunsMove → (whole part : Signal) (rules : RuleNumbers) (n : ℕ) → IsLossRule rules.loss → rules.reach ≤ farthest_reach → IsHeardAlike whole part → n ≤ length_of part
    → run whole rules Searching 0 n ≡ run part rules Searching 0 n
runs_alike move whole part rules n loss reach same within =
    move whole part rules 0 Searching 0 n loss reach tt (part_heard whole part 0 same) (omega (arith, within))
    ∙ ap₂ (λ (s : State) (items : List Item). (s, items)) (unmoved_state _) (unmoved_items _)

-- and so is the report, if they are as long
pub reports_alike : RunsMove → EndsMove → RunsAreReports → RunsAreLawful → (whole part : Signal) (rules : RuleNumbers) → IsLossRule rules.loss → rules.reach ≤ farthest_reach
    → IsHeardAlike whole part → length_of whole ≡ length_of part
    → report_items whole rules ≡ report_items part rules
reports_alike move ends reports lawful whole part rules loss reach same long =
    let n : ℕ = length_of part in
    let there : State × List Item = run part rules Searching 0 n in
    let zero_off : n - 0 ≡ n = omega arith in
    let at_end : IsLawful rules n there.0 = subst (λ (m : ℕ). IsLawful rules n (run part rules Searching 0 m).0) zero_off (lawful part rules loss Searching 0 n (omega arith) tt) in
    let last : items_of_end whole rules there.0 ≡ items_of_end part rules there.0 =
    ap (items_of_end whole rules) (sym (unmoved_state there.0)) ∙ ends whole part rules 0 there.0 at_end (part_heard whole part n same) ∙ unmoved_items _ in
    sym (reports whole rules loss)
    ∙ ap (λ (m : ℕ). (run whole rules Searching 0 m).1 ++ items_of_end whole rules (run whole rules Searching 0 m).0) long
    ∙ ap (λ (r : State × List Item). r.1 ++ items_of_end whole rules r.0) (runs_alike move whole part rules n loss reach same (omega arith))
    ∙ ap (λ (items : List Item). there.1 ++ items) last
    ∙ reports part rules loss

-- ---- bytes

-- bytes that differ only in gaps are heard alike
pub gaps_alike : (gaps : List (ℕ × ℕ)) (held other : List ℕ) (n : ℕ) → DifferInGaps gaps held other → IsHeardAlike (signal_at gaps other n) (signal_at gaps held n)
gaps_alike gaps held other n differ i late within = grind (arith, common_steps, length-map-range_with_len, heard_alike)

-- the first bytes of a stream are heard alike in all of it
front_bit : (xs ys : List ℕ) (i : ℕ) → i < 8 * length xs → packed_bit (xs ++ ys) i ≡ packed_bit xs i
front_bit xs ys i early = ap (λ (b : ℕ). bit_at b (7 - i % 8)) (get_or-append xs ys 0 (i / 8) (omega arith))

pub fronts_alike : (gaps : List (ℕ × ℕ)) (heard more : List ℕ) (n : ℕ) → 8 * length heard ≤ n → IsHeardAlike (signal_at gaps (heard ++ more) n) (signal_of gaps heard)
fronts_alike gaps bytes more n enough i late within = grind (arith, common_steps, length-map-range_with_len, heard_alike, front_bit, heard)

-- the items of the first bytes of a stream come first
pub fronts_are_alike : RunsMove → RunsJoin → (terms : Terms) (heard more : List ℕ) → IsLossRule terms.rules.loss → terms.rules.reach ≤ farthest_reach
    → (later : List Item) × (complete terms (heard ++ more) ≡ complete terms heard ++ later)
fronts_are_alike move join terms heard more loss reach =
    let n : ℕ = 8 * length heard in
    let all : ℕ = 8 * length (heard ++ more) in
    let order : n ≤ all = omega (arith, length-append heard more) in
    let whole : Signal = signal_of terms.gaps (heard ++ more) in
    let long : length (bits_of heard n) ≡ n = length-map-range_with_len (packed_bit heard) 0 n in
    let first : run whole terms.rules Searching 0 n ≡ run_of terms heard = runs_alike move whole (signal_of terms.gaps heard) terms.rules n loss reach (fronts_alike terms.gaps heard more all order) (omega (arith, long)) in
    let all_off : all - 0 ≡ all = omega arith in
    let n_off : n - 0 ≡ n = omega arith in
    let joined = join whole terms.rules Searching 0 n all (omega arith) order in (
      (run whole terms.rules (run whole terms.rules Searching 0 (n - 0)).0 n (all - n)).1,
      ap (λ (m : ℕ). (run whole terms.rules Searching 0 m).1) (sym all_off)
          ∙ ap (λ (r : State × List Item). r.1) joined
          ∙ ap (λ (m : ℕ). (run whole terms.rules Searching 0 m).1 ++ (run whole terms.rules (run whole terms.rules Searching 0 (n - 0)).0 n (all - n)).1) n_off
          ∙ ap (λ (r : State × List Item). r.1 ++ (run whole terms.rules (run whole terms.rules Searching 0 (n - 0)).0 n (all - n)).1) first,
    )

-- reports of bytes that differ only in gaps
pub are_alike : RunsMove → EndsMove → RunsAreReports → RunsAreLawful → (rules : RuleNumbers) (gaps : List (ℕ × ℕ)) (held other : List ℕ) (n : ℕ)
    → IsLossRule rules.loss → rules.reach ≤ farthest_reach → DifferInGaps gaps held other
    → report_items (signal_at gaps other n) rules ≡ report_items (signal_at gaps held n) rules
are_alike move ends reports lawful rules gaps held other n loss reach differ =
    let same : length (bits_of other n) ≡ length (bits_of held n) = length-map-range_with_len (packed_bit other) 0 n ∙ sym (length-map-range_with_len (packed_bit held) 0 n) in
    reports_alike move ends reports lawful (signal_at gaps other n) (signal_at gaps held n) rules loss reach (gaps_alike gaps held other n differ) same
