-- Two runs in a row, or the chunks of a stream, and the end give the report.
use Rattle.rds_uses.proofs.Names.{AreClosed, AreCompleted, AreWritten, HasHeard, Item, List, RuleNumbers, Searching, Signal, State, Terms, [], ap, append_assoc, arith, drop, item_in_c, items_of_end, length, length-map, length_of, map, map-append, refl, report_items, report_of, run, stream_of, subst, sym, take, take_at, unheard, ℕ, ◌++◌, ◌-◌, ◌∙◌, ◌≡◌, ◌≤◌}
use native.Mathlib.Numerals.{unary_clauses}
use Rattle.rds_sync.specs.{Laws.RunsAreReports, Laws.RunsJoin, Loss.IsLossRule}
use Rattle.rds_abi.specs.declared.layout.{RdsStream.RdsStream, RdsItem.RdsItem}

module _ {B : Type 0} (f : Item → B) (join : RunsJoin) (report : RunsAreReports) (b : Signal) (rules : RuleNumbers) (loss : IsLossRule rules.loss)
    (bits : ℕ) (len : length_of b ≡ bits) (middle : ℕ) (within : middle ≤ bits) (s1 s2 : State)
    (at_middle : s1 ≡ (run b rules Searching 0 (middle - 0)).0) (at_end : s2 ≡ (run b rules s1 middle (bits - middle)).0) where
  abbrev first : List Item
  first = (run b rules Searching 0 (middle - 0)).1

  abbrev next : List Item
  next = (run b rules s1 middle (bits - middle)).1

  abbrev ending : List Item
  ending = items_of_end b rules s2

  joined : run b rules Searching 0 (bits - 0) ≡ (s2, first ++ next)
  joined = rw (at_end, at_middle) (join b rules Searching 0 middle bits (omega arith) within)

  told : (run b rules Searching 0 (bits - 0)).1 ++ items_of_end b rules (run b rules Searching 0 (bits - 0)).0 ≡ report_items b rules
  told =
      simp unary_clauses
      (subst (λ (n : ℕ). (run b rules Searching 0 n).1 ++ items_of_end b rules (run b rules Searching 0 n).0 ≡ report_items b rules) len
      (report b rules loss))

  all : first ++ (next ++ ending) ≡ report_items b rules
  all = sym (append_assoc first next ending) ∙ (rw joined at told)

  pub whole_in_two : map f first ++ (map f next ++ map f ending) ≡ map f (report_items b rules)
  whole_in_two =
      ap (λ rest. map f first ++ rest) (sym (map-append f next ending))
      ∙ sym (map-append f first (next ++ ending))
      ∙ ap (λ items. map f items) all

-- what was written of a room
pub written : {B : Type 0} (items room rest : List B) (n : ℕ) → room ≡ items ++ rest → n ≡ length items → take n room ≡ items
written items room rest n filled count = rw filled (take_at items rest n (sym count))

-- ---- a stream

-- the items at the beginning of a room
found : (wanted : List Item → Type 0) (old new : List RdsItem) (n : ℕ) (w : AreWritten wanted old new n) → take n new ≡ map item_in_c w.0
found wanted old new n w =
    written (map item_in_c w.0) new (drop (length (map item_in_c w.0)) old) n w.2 (w.3 ∙ sym (length-map w.0 item_in_c))

pub in_chunks : (terms : Terms) (middle end : RdsStream) (first second : List ℕ) (a a1 b b1 e e1 : List RdsItem) (i j k : ℕ)
    → AreWritten (AreCompleted terms unheard first) a a1 i
    → AreWritten (AreCompleted terms middle second) b b1 j
    → AreWritten (AreClosed terms end) e e1 k
    → HasHeard (stream_of terms middle) first → HasHeard (stream_of terms end) (first ++ second)
    → take i a1 ++ (take j b1 ++ take k e1) ≡ map item_in_c (report_of terms (first ++ second))
in_chunks terms middle end first second a a1 b b1 e e1 i j k one two three heard all =
    rw (found _ a a1 i one, found _ b b1 j two, found _ e e1 k three)
    (ap (λ rest. map item_in_c one.0 ++ rest) (sym (map-append item_in_c two.0 three.0))
    ∙ sym (map-append item_in_c one.0 (two.0 ++ three.0))
    ∙ ap (λ items. map item_in_c items)
    (sym (append_assoc one.0 two.0 three.0)
    ∙ ap (λ items. items ++ three.0) (sym (two.1 first heard ∙ ap (λ items. items ++ two.0) (one.1 [] refl)))
    ∙ three.1.1 (first ++ second) all))
