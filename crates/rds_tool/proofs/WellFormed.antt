-- Lists are well-formed, the bits of gaps have no effect, and the rows of a stream begin its list.
use Rattle.rds_tool.proofs.Names.{common_steps, ◌≡◌, ◌+◌, ◌*◌, ◌++◌, ◌∷◌, ◌∙◌, ℕ, suc, Bool, true, false, Err, List, [], Ok, Option, Result, append_assoc, ap, arith, flat_map, length, refl, subst, sym, codes, decimal, None, if◌then◌else◌, flat_map-append, length-map, All-cons, All-nil, length-map-range_with_len, EndsMove, RunsMove, Terms, complete, report_of, run_of, signal_of, Signal, length_of, packed_bit, AcquisitionsAreLate, RunsAreLawful, RunsAreReports, RunsJoin, StepsAreLawful, report_items, RuleNumbers, items_of_end, run, totals_of, Item, Acquired, Group, LostLock, Searching, rows_so_far, and_then, claimed, recording_of, stream_input, block_text, dash, item_fields, item_row, named_totals, report_text, row, total_row, totals_text, list_text, text_of_task, totals_list, PlanOf, cut_by, plan_of, AreInOrder, DifferInGaps, GapsHideBits, HasRows, ListsAreWellFormed, Next, RowsBeginLists, at_first, RdsError, BadCutting, BadGaps, BitsPastBytes, TooLong, cuts_bits, Cuts, Input, Settings}
use Rattle.rds_tool.proofs.{Alike.are_alike, Alike.fronts_are_alike, JobLaws.first_are, JobLaws.list_of, JobLaws.plan_lawful, JobLaws.same-ok, Ordered.items_are_in_order}
use Rattle.rds_tool.specs.declared.task.Task.TheVariants as task

-- ---- rows

abbrev HasEight : List (List ℕ) → Type 0
HasEight fields = length fields ≡ 8

abbrev total_fields : List ℕ × ℕ → List (List ℕ)
total_fields total = codes "total" ∷ total.0 ∷ decimal total.1 ∷ dash ∷ dash ∷ dash ∷ dash ∷ dash ∷ []

-- one row more
one_more : (n : ℕ) (fields : List (List ℕ)) (text : List ℕ) → HasEight fields → HasRows n text → HasRows (suc n) (row fields ++ text)
one_more n fields text eight h = record {
  rows = fields ∷ h.rows;
  text_is = ap (λ (rest : List ℕ). row fields ++ rest) h.text_is;
  count = ap suc h.count;
  eight = All-cons HasEight fields h.rows eight h.eight;
}

rows_of_totals : (named : List (List ℕ × ℕ)) → HasRows (length named) (flat_map total_row named)
rows_of_totals [] = record { rows = []; text_is = refl; count = refl; eight = All-nil HasEight }
rows_of_totals (total ∷ named) = one_more (length named) (total_fields total) (flat_map total_row named) refl (rows_of_totals named)

-- the row of an item before those of others
item_before : (m : ℕ) (item : Item) (items : List Item) (text : List ℕ) → HasEight (item_fields item) → HasRows (length items + m) (flat_map item_row items ++ text)
    → HasRows (length (item ∷ items) + m) (flat_map item_row (item ∷ items) ++ text)
item_before m item items text eight h =
    let one : suc (length items + m) ≡ length (item ∷ items) + m = omega arith in
    subst (λ (k : ℕ). HasRows k (flat_map item_row (item ∷ items) ++ text)) one
    (subst (λ (t : List ℕ). HasRows (suc (length items + m)) t) (sym (append_assoc (item_row item) (flat_map item_row items) text))
    (one_more (length items + m) (item_fields item) (flat_map item_row items ++ text) eight h))

-- the rows of items, and then those of a text
rows_of_items : (n m : ℕ) (items : List Item) (text : List ℕ) (next : Next) → AreInOrder n next items → HasRows m text → HasRows (length items + m) (flat_map item_row items ++ text)
rows_of_items n m [] text next order h = let none : m ≡ 0 + m = omega arith in subst (λ (k : ℕ). HasRows k text) none h
rows_of_items n m (Acquired place number ∷ items) text next order h = item_before m (Acquired place number) items text refl (rows_of_items n m items text _ order.4 h)
rows_of_items n m (LostLock place ∷ items) text next order h = item_before m (LostLock place) items text refl (rows_of_items n m items text _ order.4 h)
rows_of_items n m (Group group ∷ items) text next order h =
    let eight : HasEight (item_fields (Group group)) = omega (arith, length-map group.blocks block_text, order.4) in
    item_before m (Group group) items text eight (rows_of_items n m items text _ order.5 h)

module _ (reports : RunsAreReports) (steps : StepsAreLawful) (late : AcquisitionsAreLate) where
  pub lists_are_well_formed : ListsAreWellFormed
  lists_are_well_formed input settings held listing is =
      let list = list_of input settings held listing is in
      let recording : Signal = list.recording in
      let rules : RuleNumbers = list.plan.rules in
      let items : List Item = report_items recording rules in
      let order = items_are_in_order reports steps late recording rules (plan_lawful settings list.plan list.planned).loss in (
        recording,
        list.recorded,
        record {
          items = items;
          listing_is = list.is_listing;
          rows = subst (HasRows (length items + 12)) (sym list.is_listing) (rows_of_items (length_of recording) 12 items _ at_first order (rows_of_totals (named_totals (totals_of items))));
          in_order = order;
        },
      )

-- ---- gaps

abbrev Text : Type 0
Text = RuleNumbers → Signal → List ℕ

-- a recording, after the tests of its length and gaps
abbrev tested : Bool → Bool → Bool → Signal → Result Signal RdsError
tested long past bad b = if long then Err TooLong else if past then Err BitsPastBytes else if bad then Err BadGaps else Ok b

-- the text of a recording that is cut
abbrev cut_text : Text → RuleNumbers → Cuts → Result Signal RdsError → Result (List ℕ) RdsError
cut_text text rules cuts made = and_then (and_then made (cut_by cuts)) (λ recording. Ok (text rules recording))

-- the same, if the cuts fit or not
abbrev fitting_text : Text → RuleNumbers → Bool → Signal → Result (List ℕ) RdsError
fitting_text text rules fits recording = and_then (if fits then Ok recording else Err BadCutting) (λ cut. Ok (text rules cut))

cut_alike : (text : Text) (rules : RuleNumbers) (cuts : Cuts) (b c : Signal) → length_of b ≡ length_of c → text rules b ≡ text rules c → (long past bad : Bool)
    → cut_text text rules cuts (tested long past bad b) ≡ cut_text text rules cuts (tested long past bad c)
cut_alike text rules cuts b c same alike true past bad = refl
cut_alike text rules cuts b c same alike false true bad = refl
cut_alike text rules cuts b c same alike false false true = refl
cut_alike text rules cuts b c same alike false false false =
    ap (λ (n : ℕ). fitting_text text rules (cuts_bits cuts n) b) same ∙ at_test (cuts_bits cuts (length_of c))
  where
    at_test : (fits : Bool) → fitting_text text rules fits b ≡ fitting_text text rules fits c
    at_test true = ap (λ (t : List ℕ). Ok t) alike
    at_test false = refl

claimed_alike : (bits : Option ℕ) (held other : List ℕ) → length other ≡ length held → claimed bits other ≡ claimed bits held
claimed_alike bits held other long = grind (arith, common_steps)

module _ (move : RunsMove) (ends : EndsMove) (reports : RunsAreReports) (lawful : RunsAreLawful) where
  -- a text that only the report decides
  abbrev IsOfReport : Text → Type 0
  IsOfReport text = (rules : RuleNumbers) (b c : Signal) → report_items b rules ≡ report_items c rules → text rules b ≡ text rules c

  texts_alike : (text : Text) → IsOfReport text → (input : Input) (settings : Settings) (plan : PlanOf) (held other : List ℕ) → input.hex ≡ false → DifferInGaps input.gaps held other
      → plan_of settings ≡ Ok plan
      → cut_text text plan.rules plan.cuts (recording_of input other) ≡ cut_text text plan.rules plan.cuts (recording_of input held)
  texts_alike text decided input settings plan held other bytes differ planned = grind (arith, common_steps, plan_lawful, length-map-range_with_len, are_alike, claimed_alike, cut_alike)

  list_decided : IsOfReport list_text
  list_decided rules b c same = ap (λ (items : List Item). report_text items (totals_of items)) same

  totals_decided : IsOfReport totals_list
  totals_decided rules b c same = ap (λ (items : List Item). totals_text (totals_of items)) same

  abbrev list_by : Input → Result PlanOf RdsError → List ℕ → Result (List ℕ) RdsError
  list_by input planned held = and_then (and_then planned (λ plan. Ok (task.List input plan))) (λ task. text_of_task task held)

  abbrev totals_by : Input → Result PlanOf RdsError → List ℕ → Result (List ℕ) RdsError
  totals_by input planned held = and_then (and_then planned (λ plan. Ok (task.Totals input plan))) (λ task. text_of_task task held)

  pub gaps_hide_bits : GapsHideBits
  gaps_hide_bits input settings held other bytes differ = at_plan (plan_of settings) refl
    where
      at_plan : (planned : Result PlanOf RdsError) → plan_of settings ≡ planned
          → (list_by input planned other ≡ list_by input planned held) × (totals_by input planned other ≡ totals_by input planned held)
      at_plan (Err e) is = (refl, refl)
      at_plan (Ok plan) is = (
        texts_alike list_text list_decided input settings plan held other bytes differ is,
        texts_alike totals_list totals_decided input settings plan held other bytes differ is,
      )

-- ---- rows of a stream

module _ (move : RunsMove) (join : RunsJoin) (reports : RunsAreReports) where
  pub rows_begin_lists : RowsBeginLists
  rows_begin_lists settings plan gaps heard more listing planned is =
      let terms : Terms = record { rules = plan.rules; gaps = gaps } in
      let all : List ℕ = heard ++ more in
      let list = list_of (stream_input None gaps) settings all listing is in
      let own : list.plan ≡ plan = same-ok list.plan plan (sym list.planned ∙ planned) in
      let by = plan_lawful settings plan planned in
      let whole : Signal = signal_of gaps all in
      let recorded : list.recording ≡ whole = sym (first_are (8 * length all) gaps all list.recording list.recorded) in
      let long : length_of whole ≡ 8 * length all = length-map-range_with_len (packed_bit all) 0 (8 * length all) in
      let last : List Item = items_of_end whole terms.rules (run_of terms all).0 in
      let ending : List ℕ = totals_text (totals_of (report_of terms all)) in
      let front = fronts_are_alike move join terms heard more by.loss by.near in
      let items_are : report_of terms all ≡ complete terms heard ++ (front.0 ++ last) =
      sym (reports whole terms.rules by.loss)
      ∙ ap (λ (n : ℕ). (run whole terms.rules Searching 0 n).1 ++ items_of_end whole terms.rules (run whole terms.rules Searching 0 n).0) long
      ∙ ap (λ (items : List Item). items ++ last) front.1
      ∙ append_assoc (complete terms heard) front.0 last in
      let is_text : listing ≡ rows_so_far terms heard ++ (flat_map item_row (front.0 ++ last) ++ ending) =
      list.is_listing
      ∙ ap (λ (p : PlanOf). list_text p.rules list.recording) own
      ∙ ap (list_text plan.rules) recorded
      ∙ ap (λ (items : List Item). flat_map item_row items ++ ending) items_are
      ∙ ap (λ (rows : List ℕ). rows ++ ending) (flat_map-append item_row (complete terms heard) (front.0 ++ last))
      ∙ append_assoc (rows_so_far terms heard) (flat_map item_row (front.0 ++ last)) ending in
      (flat_map item_row (front.0 ++ last), is_text)
