-- A run that is gone over once, and the text and the counts that it gives.
use Rattle.rds_tool.proofs.Names.{common_steps, ◌≡◌, ◌++◌, ℕ, List, Option, Result, Ok, Err, ap, arith, append_assoc, subst, sym, ◌∙◌, OnErr, OnOk, flat_map, Appends, Appends-trans, flat_map-append, AppendsPrefix, Signal, length_of, DecoderOf, decoder_of, RunsAreReports, IsLossRule, report_items, RuleNumbers, items_of_end, Item, State, Searching, item_row, list_text, totals_of, totals_text}

-- ---- the text that was written

-- a whole text, and then a prefix of another
pub prefix_more : (a b c : Option (List ℕ)) (xs ys : List ℕ) → Appends a b xs → AppendsPrefix b c ys → AppendsPrefix a c (xs ++ ys)
prefix_more a b c xs ys p (prefix, rest, split, q) = (xs ++ prefix, rest, ap (λ (w : List ℕ). xs ++ w) split ∙ sym (append_assoc xs prefix rest), Appends-trans a b c xs prefix p q)

-- a prefix of the first part of a text
pub prefix_wider : (a b : Option (List ℕ)) (xs ys : List ℕ) → AppendsPrefix a b xs → AppendsPrefix a b (xs ++ ys)
prefix_wider a b xs ys (prefix, rest, split, q) = (prefix, rest ++ ys, ap (λ (w : List ℕ). w ++ ys) split ∙ append_assoc prefix rest ys, q)

-- a whole text, and then a prefix of another, with more after it
pub prefix_between : (a b c : Option (List ℕ)) (xs ys zs : List ℕ) → Appends a b xs → AppendsPrefix b c ys → AppendsPrefix a c (xs ++ (ys ++ zs))
prefix_between a b c xs ys zs p q = prefix_more a b c xs (ys ++ zs) p (prefix_wider b c ys zs q)

-- ---- a text that is written by two calls

module _ {T E : Type 0} where
  pub err_more : (r : Result T E) (a b c : Option (List ℕ)) (xs ys zs : List ℕ) → xs ++ ys ≡ zs → Appends a b xs → OnErr r (AppendsPrefix b c ys) → OnErr r (AppendsPrefix a c zs)
  err_more (Ok x) a b c xs ys zs e p q = tt
  err_more (Err x) a b c xs ys zs e p q = subst (λ (ws : List ℕ). AppendsPrefix a c ws) e (prefix_more a b c xs ys p q)

  pub ok_more : (r : Result T E) (a b c : Option (List ℕ)) (xs ys zs : List ℕ) → xs ++ ys ≡ zs → Appends a b xs → OnOk r (Appends b c ys) → OnOk r (Appends a c zs)
  ok_more (Ok x) a b c xs ys zs e p q = subst (λ (ws : List ℕ). Appends a c ws) e (Appends-trans a b c xs ys p q)
  ok_more (Err x) a b c xs ys zs e p q = tt

-- the first failed
pub prefix_first : (a b : Option (List ℕ)) (xs ys zs : List ℕ) → xs ++ ys ≡ zs → AppendsPrefix a b xs → AppendsPrefix a b zs
prefix_first a b xs ys zs e p = subst (λ (ws : List ℕ). AppendsPrefix a b ws) e (prefix_wider a b xs ys p)

-- ---- the run over a whole recording

module _ (b : Signal) (rules : RuleNumbers) (len : ℕ) (is : len ≡ length_of b) (d : DecoderOf) (of : d ≡ decoder_of b rules Searching 0 len) (loss : IsLossRule rules.loss) where
  -- its items, and then those of the end, are the report's
  whole_report : RunsAreReports → (end : State) → end ≡ d.end → d.items ++ items_of_end b rules end ≡ report_items b rules
  whole_report reports end ends = grind (arith, common_steps)

  -- so is the list
  pub report_rows : RunsAreReports → (end : State) → end ≡ d.end → (last : List Item) → last ≡ items_of_end b rules end
      → flat_map item_row d.items ++ (flat_map item_row last ++ totals_text (totals_of (d.items ++ last))) ≡ list_text rules b
  report_rows reports end ends last is =
      let totals = totals_text (totals_of (d.items ++ last)) in
      sym (append_assoc (flat_map item_row d.items) (flat_map item_row last) totals)
      ∙ ap (λ (rows : List ℕ). rows ++ totals) (sym (flat_map-append item_row d.items last))
      ∙ ap (λ (items : List Item). flat_map item_row items ++ totals_text (totals_of items)) (ap (λ (xs : List Item). d.items ++ xs) is ∙ whole_report reports end ends)

-- ---- the rows of a part

-- those of what is done, of a part and of the rest
pub parted_rows : (all done left part rest : List Item) → all ≡ done ++ left → left ≡ part ++ rest
    → flat_map item_row done ++ (flat_map item_row part ++ flat_map item_row rest) ≡ flat_map item_row all
parted_rows all done left part rest first next = grind (arith, common_steps, flat_map-append)
