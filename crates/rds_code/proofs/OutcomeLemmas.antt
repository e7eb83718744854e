-- How a block came out, by the outcomes of its window with the offsets that it may have.
use Rattle.rds_code.proofs.Names.{common_steps, ◌≡◌, ℕ, zero, suc, ◌<◌, ◌≤◌, List, [], ◌∷◌, ◌++◌, length, get_or, slice_index, map, refl, sym, ap, ◌∙◌, arith, inl, inr, ◌⊎◌, bit_xor, subst, Some, ◌+◌, ◌%◌, ◌==◌, if◌then◌else◌, bit_at, bit_at-lt, bit_at_xor, xor_self, xor_zero_r, ones, get_or_append_left, get_or_default, length-append, below_more, Offset, B, C, Cx, Wanted, OnlyC, OnlyCx, Either, Reading, Corrected, Lost, rem, word, number, offset_of, IsBurst, burst_length, outcome_number, burst_outcome, wanted_after, wanted_of_info, HasNoBurst, IsEntry, IsOutcome, IsTurn, StandIn, wanted_at, information, IsValid, wanted_offsets, corrections, by_only, reading, get_or-append_seam}
use Rattle.rds_code.{proofs.ReadingLemmas.NoneFits, proofs.ReadingLemmas.OneFits, proofs.ReadingLemmas.none_by_table, proofs.ReadingLemmas.one_by_table, proofs.ReadingLemmas.corrections_none, proofs.ReadingLemmas.corrections_one, proofs.ReadingLemmas.corrections_two, proofs.ReadingLemmas.fitting, proofs.ReadingLemmas.reads_valid, proofs.ReadingLemmas.reads_corrected, proofs.ReadingLemmas.third, proofs.ReadingLemmas.only_B, specs.Inside.Outcomes.HasBurst, proofs.RemainderLemmas.twice, proofs.Membership.each_below, proofs.BurstLemmas.rem_burst, proofs.BurstLemmas.longer, proofs.SpanLemmas.ones_pos, proofs.SpanLemmas.ones-le_span, proofs.CorrectionLemmas.valid_word, proofs.CorrectionLemmas.word_offset}

-- one entry more in a table
pub one_more : (limit : ℕ) (table : List ℕ) (i k : ℕ) → i ≡ length table → StandIn limit table → IsEntry limit i k → StandIn limit (table ++ k ∷ [])
one_more limit table i k last stand here d less =
    below_more (λ (n : ℕ). IsEntry limit n (slice_index (table ++ k ∷ []) n)) (length table)
    (λ n before. subst (IsEntry limit n) (sym (get_or_append_left table (k ∷ []) 0 n before)) (stand n before))
    (subst (IsEntry limit (length table)) (sym (get_or-append_seam table k [] 0)) (subst (λ (n : ℕ). IsEntry limit n k) last here))
    d (omega (arith, less, length-append table (k ∷ [])))

-- the entry that was looked up
pub entry_of : (limit : ℕ) (table : List ℕ) (i k : ℕ) → i < length table → k ≡ get_or table i k → StandIn limit table → IsEntry limit i k
entry_of limit table i k within is stand = subst (IsEntry limit i) (sym (is ∙ get_or_default table i k 0 within)) (stand i within)

-- ---- the version bit

bit_in_info : (w : ℕ) → bit_at (information w) 11 ≡ bit_at w 21
bit_in_info w = omega arith

-- the version of an information word whose bit was turned
turned : (t info bit : ℕ) → bit < 2 → t < 2 → bit_at info 11 ≡ (t + bit) % 2 → wanted_at (bit_xor t bit) ≡ wanted_of_info info
turned zero info zero _ _ is = ap (λ (n : ℕ). if n == 0 then OnlyC else OnlyCx) (sym is)
turned zero info (suc zero) _ _ is = ap (λ (n : ℕ). if n == 0 then OnlyC else OnlyCx) (sym is)
turned (suc zero) info zero _ _ is = ap (λ (n : ℕ). if n == 0 then OnlyC else OnlyCx) (sym is)
turned (suc zero) info (suc zero) _ _ is = ap (λ (n : ℕ). if n == 0 then OnlyC else OnlyCx) (sym is)
turned (suc (suc t)) info bit _ few is = absurd (omega (arith, few))
turned zero info (suc (suc bit)) few _ is = absurd (omega (arith, few))
turned (suc zero) info (suc (suc bit)) few _ is = absurd (omega (arith, few))

unknown : (bit : ℕ) → bit < 2 → wanted_at (bit_xor 2 bit) ≡ Either
unknown zero _ = refl
unknown (suc zero) _ = refl
unknown (suc (suc bit)) few = absurd (omega (arith, few))

-- ---- the meaning of an outcome

-- the remainder added to the word of an offset is 0 only if it is this word
alike : (r s : ℕ) → bit_xor r s ≡ 0 → s ≡ r
alike r s same = sym (twice r s) ∙ ap (bit_xor r) same ∙ xor_zero_r r

-- no burst of up to five bits has a outcome above 13
outcome_most : (s n : ℕ) → s ≤ 5 → n ≤ s → burst_outcome s n ≤ 13
outcome_most s n few within =
    each_below (λ s. n ≤ s → burst_outcome s n ≤ 13) 6 (omega arith, (omega arith, (omega arith, (omega arith, (omega arith, (omega arith, tt)))))) s (omega (arith, few)) within

pub at_most_13 : (limit d k : ℕ) → limit ≤ 5 → IsOutcome limit d k → k ≤ 13
at_most_13 limit d k few (inl h) = omega (arith, h.1)
at_most_13 limit d k few (inr (inl h)) = omega (arith, h.2)
at_most_13 limit d k few (inr (inr h)) =
    let e : ℕ = h.0 in
    omega (arith, h.2, outcome_most (burst_length e) (ones e) (omega (arith, h.1.0.short)) (ones-le_span limit e h.1.0))

-- the facts about the outcome of a window that is damaged
abbrev pub Damage : ℕ → ℕ → ℕ → Type 0
Damage limit d k = ((0 < d) × HasNoBurst limit d × (k ≡ 2)) ⊎ ((e : ℕ) × HasBurst limit d e × (k ≡ burst_outcome (burst_length e) (ones e)))

module _ (limit d k : ℕ) (few : limit ≤ 5) where
  at_least_three : (e : ℕ) → IsBurst limit e → 3 ≤ burst_outcome (burst_length e) (ones e)
  at_least_three e burst = omega (arith, ones_pos limit e burst)

  -- a burst is no valid window
  pub not_zero : (e : ℕ) → HasBurst limit d e → 0 < d
  not_zero e has = grind (arith, common_steps, rem_burst, longer)

  pub valid_by_outcome : IsOutcome limit d k → k ≡ 1 → d ≡ 0
  valid_by_outcome it one = grind (arith, common_steps, at_least_three)

  -- of a window that is not valid: lost, or corrected by a burst
  pub damaged : IsOutcome limit d k → (k ≡ 1 → ⊥) → Damage limit d k
  damaged it not = grind (arith, common_steps)

  pub burst_is_not_lost : (e : ℕ) → HasBurst limit d e → k ≡ burst_outcome (burst_length e) (ones e) → k ≡ 2 → ⊥
  burst_is_not_lost e has is lost = omega (arith, is, lost, at_least_three e has.0)

module _ (w limit : ℕ) (few : limit ≤ 5) where
  abbrev pub sum_with : Offset → ℕ
  sum_with o = bit_xor (rem w) (word o)

  none_with : (o : Offset) → HasNoBurst limit (sum_with o) → NoneFits limit w o
  none_with o none = none_by_table limit w (rem w) (word o) o few refl refl none

  one_with : (o : Offset) (e : ℕ) → HasBurst limit (sum_with o) e → OneFits limit w o e
  one_with o e has = one_by_table limit w (rem w) (word o) o e few refl refl has.0 has.1

  valid_with : (o : Offset) (x : ℕ) → number o ≡ x → sum_with o ≡ 0 → IsValid w x o
  valid_with o x own none = record { offset = ap offset_of (sym (alike (rem w) (word o) none)) ∙ word_offset o; own = own }

  more_than_zero : (o : Offset) (k : ℕ) → Damage limit (sum_with o) k → 0 < sum_with o
  more_than_zero o k (inl h) = h.0
  more_than_zero o k (inr h) = not_zero limit (sum_with o) k few h.0 h.1

  -- a damaged window has not the offset
  other_offset : (o p : Offset) (k : ℕ) → Damage limit (sum_with o) k → offset_of (rem w) ≡ Some p → p ≡ o → ⊥
  other_offset o p k h is same =
      let none : sum_with o ≡ 0 = ap (bit_xor (rem w)) (ap word (sym same) ∙ valid_word (rem w) p is) ∙ xor_self (rem w) in
      omega (arith, more_than_zero o k h, none)

  -- the reading of a damaged block for which one offset is wanted
  lost_with : (x : ℕ) (wanted : Wanted) (o : Offset) → wanted_offsets x wanted ≡ o ∷ [] → ((p : Offset) → IsValid w x p → ⊥) → HasNoBurst limit (sum_with o) → reading w x wanted limit ≡ Lost
  lost_with x wanted o list not_valid none = grind (arith, common_steps, reads_corrected, corrections_none, none_with)

  corrected_with : (x : ℕ) (wanted : Wanted) (o : Offset) (e : ℕ) → wanted_offsets x wanted ≡ o ∷ [] → ((p : Offset) → IsValid w x p → ⊥) → HasBurst limit (sum_with o) e
      → reading w x wanted limit ≡ Corrected o (information (bit_xor w e)) e
  corrected_with x wanted o e list not_valid has =
      reads_corrected w x wanted limit not_valid ∙ ap (λ (os : List Offset). by_only w (corrections os limit w)) list ∙ ap (by_only w) (corrections_one limit w o e (one_with o e has))

  -- its outcome
  pub by_one : (x : ℕ) (wanted : Wanted) (o : Offset) (k : ℕ) → wanted_offsets x wanted ≡ o ∷ [] → ((p : Offset) → IsValid w x p → ⊥) → Damage limit (sum_with o) k
      → k ≡ outcome_number (reading w x wanted limit)
  by_one x wanted o k list not_valid (inl h) = h.2 ∙ sym (ap outcome_number (lost_with x wanted o list not_valid h.1))
  by_one x wanted o k list not_valid (inr h) = h.2 ∙ sym (ap outcome_number (corrected_with x wanted o h.0 list not_valid h.1))

  -- a block of a number that one offset has
  pub by_single : (x : ℕ) (wanted : Wanted) (o : Offset) (k : ℕ) → wanted_offsets x wanted ≡ o ∷ [] → number o ≡ x → ((p : Offset) → number p ≡ x → p ≡ o) → IsOutcome limit (sum_with o) k
      → k ≡ outcome_number (reading w x wanted limit)
  by_single x wanted o k list own alone (inl h) = h.1 ∙ sym (ap outcome_number (reads_valid w x wanted limit o (valid_with o x own h.0)))
  by_single x wanted o k list own alone (inr h) = by_one x wanted o k list (λ p valid. other_offset o p k h valid.offset (alone p valid.own)) h

  -- the offsets wanted beside block 2, by the turn of its version bit
  pub wanted_by_turn : (t : ℕ) → IsTurn limit (sum_with B) t → wanted_at (bit_xor t (bit_at w 21)) ≡ wanted_after (reading w 2 Either limit)
  wanted_by_turn t (inl h) =
      ap (λ (n : ℕ). wanted_at (bit_xor n (bit_at w 21))) h.1 ∙ turned 0 (information w) (bit_at w 21) (bit_at-lt w 21) (omega arith)
      (omega (arith, bit_in_info w))
      ∙ sym (ap wanted_after (reads_valid w 2 Either limit B (valid_with B 2 refl h.0)))
  wanted_by_turn t (inr (inl h)) =
      ap (λ (n : ℕ). wanted_at (bit_xor n (bit_at w 21))) h.2 ∙ unknown (bit_at w 21) (bit_at-lt w 21)
      ∙ sym (ap wanted_after (lost_with 2 Either B refl (λ p valid. other_offset B p 2 (inl (h.0, h.1, refl)) valid.offset (only_B p valid.own)) h.1))
  wanted_by_turn t (inr (inr h)) =
      let e : ℕ = h.0 in
      ap (λ (n : ℕ). wanted_at (bit_xor n (bit_at w 21))) h.2 ∙ turned (bit_at e 21) (information (bit_xor w e)) (bit_at w 21) (bit_at-lt w 21) (bit_at-lt e 21)
      (omega (arith, bit_in_info (bit_xor w e), bit_at_xor w e 21))
      ∙ sym (ap wanted_after (corrected_with 2 Either B e refl (λ p valid. other_offset B p (burst_outcome (burst_length e) (ones e)) (inr (e, h.1, refl)) valid.offset (only_B p valid.own)) h.1))

  pub valid_third : (wanted : Wanted) (o : Offset) (k : ℕ) → number o ≡ 3 → IsOutcome limit (sum_with o) k → k ≡ 1 → 1 ≡ outcome_number (reading w 3 wanted limit)
  valid_third wanted o k own is one = sym (ap outcome_number (reads_valid w 3 wanted limit o (valid_with o 3 own (valid_by_outcome limit (sum_with o) k few is one))))

  module _ (a b : ℕ) (version_a : Damage limit (sum_with C) a) (version_b : Damage limit (sum_with Cx) b) where
    not_third : (p : Offset) → IsValid w 3 p → ⊥
    not_third p valid = elim (third p valid.own) [
      | inl c ↦ other_offset C p a version_a valid.offset c
      | inr cx ↦ other_offset Cx p b version_b valid.offset cx
    ]

    pub third_as_c : a ≡ outcome_number (reading w 3 OnlyC limit)
    third_as_c = by_one 3 OnlyC C a refl not_third version_a

    pub third_as_cx : b ≡ outcome_number (reading w 3 OnlyCx limit)
    third_as_cx = by_one 3 OnlyCx Cx b refl not_third version_b

    abbrev pub either : Reading
    either = reading w 3 Either limit

    by_lists : (es ds : List ℕ) → fitting limit w C ≡ es → fitting limit w Cx ≡ ds → either ≡ by_only w (map {B = Offset × ℕ} (λ e. (C, e)) es ++ (map {B = Offset × ℕ} (λ e. (Cx, e)) ds ++ []))
    by_lists es ds hc hcx = reads_corrected w 3 Either limit not_third ∙ ap (by_only w) (corrections_two limit w C Cx es ds hc hcx)

  -- if both are wanted: the outcome of the one if the other is lost, and lost if neither is
  pub record IsEither (a b k : ℕ) : Type 0 where
    pub first_lost : a ≡ 2 → b ≡ k
    pub second_lost : (a ≡ 2 → ⊥) → b ≡ 2 → a ≡ k
    pub both : (a ≡ 2 → ⊥) → (b ≡ 2 → ⊥) → 2 ≡ k

  pub third_as_either : (a b : ℕ) (version_a : Damage limit (sum_with C) a) (version_b : Damage limit (sum_with Cx) b) → IsEither a b (outcome_number (reading w 3 Either limit))
  third_as_either a b (inl c) (inl cx) = grind (arith, common_steps, by_lists a b (inl c) (inl cx) [] [] (none_with C c.1).list (none_with Cx cx.1).list)
  third_as_either a b (inl c) (inr cx) = grind (arith, common_steps, by_lists a b (inl c) (inr cx) [] (cx.0 ∷ []) (none_with C c.1).list (one_with Cx cx.0 cx.1).list)
  third_as_either a b (inr c) (inl cx) =
      grind (arith, common_steps, by_lists a b (inr c) (inl cx) (c.0 ∷ []) [] (one_with C c.0 c.1).list (none_with Cx cx.1).list, burst_is_not_lost limit (sum_with C) a few c.0 c.1 c.2)
  third_as_either a b (inr c) (inr cx) =
      grind (arith, common_steps, by_lists a b (inr c) (inr cx) (c.0 ∷ []) (cx.0 ∷ []) (one_with C c.0 c.1).list (one_with Cx cx.0 cx.1).list, burst_is_not_lost limit (sum_with C) a few c.0 c.1 c.2, burst_is_not_lost limit (sum_with Cx) b few cx.0 cx.1 cx.2)
