-- How a window is corrected: with each offset no burst fits or one does, and the list of the pairs that fit is they.
use Rattle.rds_code.proofs.Names.{common_steps, ◌≡◌, ℕ, zero, suc, ◌^◌, ◌<◌, ◌≤◌, List, [], ◌∷◌, ◌++◌, Bool, true, false, map, refl, sym, ap, ap₂, ◌∙◌, arith, inl, inr, ◌⊎◌, eqb, subst, bit_xor, Option, Some, None, lit<, IsTrue, IfSome, filter, cases_eq, eq-eqb, eqb-true, ne_eqb, xor_lt, Offset, A, B, C, Cx, D, Wanted, OnlyC, OnlyCx, Either, Reading, Valid, Lost, rem, word, number, offset_of, IsBurst, bursts, information, allows, IsValid, IsReading, wanted_offsets, corrections, by_only, corrected, read_from, reading}
use Rattle.rds_code.proofs.{RemainderLemmas.rem-xor, RemainderLemmas.rem-lt, RemainderLemmas.twice, Membership.is_among, Membership.filter_none, Membership.filter_one, Membership.filter_among, Membership.among_head, Membership.among_filter, BurstLemmas.burst_is_one, BurstLemmas.longer, BurstLemmas.limit_is_among, BurstLemmas.among_limit_is, BurstLemmas.bursts_differ}

pub word-lt : (o : Offset) → word o < 2 ^ 10
word-lt o = grind (arith, common_steps, lit<)

-- the remainder that a burst needs for the window to become a block with the offset
pub wanted_remainder : (w e : ℕ) (o : Offset) → rem (bit_xor w e) ≡ word o → rem e ≡ bit_xor (rem w) (word o)
wanted_remainder w e o fits = sym (twice (rem w) (rem e)) ∙ ap (bit_xor (rem w)) (sym (rem-xor w e) ∙ fits)

pub fits_by_remainder : (w e : ℕ) (o : Offset) → rem e ≡ bit_xor (rem w) (word o) → rem (bit_xor w e) ≡ word o
fits_by_remainder w e o same = rem-xor w e ∙ ap (bit_xor (rem w)) same ∙ twice (rem w) (word o)

pub wanted_remainder-lt : (w : ℕ) (o : Offset) → w < 2 ^ 26 → bit_xor (rem w) (word o) < 2 ^ 10
wanted_remainder-lt w o h = xor_lt 10 (rem w) (word o) (rem-lt w h) (word-lt o)

-- the bursts that turn w into a block with the offset o
abbrev pub fitting : ℕ → ℕ → Offset → List ℕ
fitting limit w o = filter (λ e. eqb (rem (bit_xor w e)) (word o)) (bursts limit)

-- no burst does
pub record NoneFits (limit w : ℕ) (o : Offset) : Type 0 where
  pub none : (d : ℕ) → IsBurst limit d → rem (bit_xor w d) ≡ word o → ⊥
  pub list : fitting limit w o ≡ []

-- the burst e does, and no other
pub record OneFits (limit w : ℕ) (o : Offset) (e : ℕ) : Type 0 where
  pub burst : IsBurst limit e
  pub fits : rem (bit_xor w e) ≡ word o
  pub only : (d : ℕ) → IsBurst limit d → rem (bit_xor w d) ≡ word o → d ≡ e
  pub list : fitting limit w o ≡ e ∷ []

pub none_fits : (limit w : ℕ) (o : Offset) → limit ≤ 5 → ((d : ℕ) → IsBurst limit d → rem (bit_xor w d) ≡ word o → ⊥) → NoneFits limit w o
none_fits limit w o few none = record {
  none = none;
  list = filter_none (λ e. eqb (rem (bit_xor w e)) (word o)) (bursts limit) (λ d among passes. none d (among_limit_is limit d few among) (eqb-true (rem (bit_xor w d)) (word o) passes));
}

pub one_fits : (limit w : ℕ) (o : Offset) (e : ℕ) → limit ≤ 5 → IsBurst limit e → rem (bit_xor w e) ≡ word o → OneFits limit w o e
one_fits limit w o e few burst fits =
    let only : (d : ℕ) → IsBurst limit d → rem (bit_xor w d) ≡ word o → d ≡ e =
    λ d other same. burst_is_one d e (longer limit d few other) (longer limit e few burst) (wanted_remainder w d o same ∙ sym (wanted_remainder w e o fits)) in
    record {
      burst = burst;
      fits = fits;
      only = only;
      list = filter_one (λ d. eqb (rem (bit_xor w d)) (word o)) e (bursts limit) (bursts_differ limit few) (limit_is_among limit e few burst) (eq-eqb (rem (bit_xor w e)) (word o) fits)
          (λ d among passes. only d (among_limit_is limit d few among) (eqb-true (rem (bit_xor w d)) (word o) passes));
    }

-- the argument that the code gives the table: r is the window's remainder and s the offset's word
pub asked-lt : (w r s : ℕ) (o : Offset) → w < 2 ^ 26 → r ≡ rem w → s ≡ word o → bit_xor r s < 2 ^ 10
asked-lt w r s o h hr hs = subst (λ (n : ℕ). n < 2 ^ 10) (sym (ap₂ bit_xor hr hs)) (wanted_remainder-lt w o h)

pub none_by_table : (limit w r s : ℕ) (o : Offset) → limit ≤ 5 → r ≡ rem w → s ≡ word o → ((d : ℕ) → IsBurst limit d → rem d ≡ bit_xor r s → ⊥) → NoneFits limit w o
none_by_table limit w r s o few hr hs none = none_fits limit w o few (λ d burst fits. none d burst (wanted_remainder w d o fits ∙ sym (ap₂ bit_xor hr hs)))

pub one_by_table : (limit w r s : ℕ) (o : Offset) (e : ℕ) → limit ≤ 5 → r ≡ rem w → s ≡ word o → IsBurst limit e → rem e ≡ bit_xor r s → OneFits limit w o e
one_by_table limit w r s o e few hr hs burst fits = one_fits limit w o e few burst (fits_by_remainder w e o (fits ∙ ap₂ bit_xor hr hs))

-- the meaning of the table's answer for the window
abbrev pub TableSays : ℕ → ℕ → Offset → Option ℕ → Type 0
TableSays limit w o None = NoneFits limit w o
TableSays limit w o (Some e) = OneFits limit w o e

pub table_says : (limit w r s : ℕ) (o : Offset) (found : Option ℕ) → limit ≤ 5 → r ≡ rem w → s ≡ word o → IfSome found (λ e. IsBurst limit e) → IfSome found (λ e. rem e ≡ bit_xor r s)
    → (found ≡ None → (d : ℕ) → IsBurst limit d → rem d ≡ bit_xor r s → ⊥) → TableSays limit w o found
table_says limit w r s o found few hr hs burst fits none = grind (arith, common_steps, none_by_table, one_by_table)

-- with each offset no burst fits or one does
pub fits_or_not : (limit w : ℕ) (o : Offset) → limit ≤ 5 → NoneFits limit w o ⊎ ((e : ℕ) × OneFits limit w o e)
fits_or_not limit w o few = by_list (fitting limit w o) refl
  where
    by_list : (es : List ℕ) → fitting limit w o ≡ es → NoneFits limit w o ⊎ ((e : ℕ) × OneFits limit w o e)
    by_list [] empty = inl (none_fits limit w o few (λ d burst fits.
        let found = among_filter (λ e. eqb (rem (bit_xor w e)) (word o)) d (bursts limit) (limit_is_among limit d few burst) (eq-eqb (rem (bit_xor w d)) (word o) fits) in
        let no : false ≡ true = ap (is_among d) (sym empty) ∙ found in cc no))
    by_list (e ∷ es) some =
        let found = filter_among (λ d. eqb (rem (bit_xor w d)) (word o)) e (bursts limit) (ap (is_among e) some ∙ among_head e e es refl) in
        inr (e, one_fits limit w o e few (among_limit_is limit e few found.0) (eqb-true (rem (bit_xor w e)) (word o) found.1))

-- ---- the offsets of a number

pub only_A : (p : Offset) → number p ≡ 1 → p ≡ A
only_A p h = grind (arith, common_steps)

pub only_B : (p : Offset) → number p ≡ 2 → p ≡ B
only_B p h = grind (arith, common_steps)

pub only_D : (p : Offset) → number p ≡ 4 → p ≡ D
only_D p h = grind (arith, common_steps)

pub third : (p : Offset) → number p ≡ 3 → (p ≡ C) ⊎ (p ≡ Cx)
third p h = grind (arith, common_steps)

-- ---- the pairs that fit, for one offset and for two

pub corrections_none : (limit w : ℕ) (o : Offset) → NoneFits limit w o → corrections (o ∷ []) limit w ≡ []
corrections_none limit w o h = ap (λ (es : List ℕ). map {B = Offset × ℕ} (λ e. (o, e)) es ++ []) h.list

pub corrections_one : (limit w : ℕ) (o : Offset) (e : ℕ) → OneFits limit w o e → corrections (o ∷ []) limit w ≡ (o, e) ∷ []
corrections_one limit w o e h = ap (λ (es : List ℕ). map {B = Offset × ℕ} (λ d. (o, d)) es ++ []) h.list

pub corrections_two : (limit w : ℕ) (o p : Offset) (es ds : List ℕ) → fitting limit w o ≡ es → fitting limit w p ≡ ds → corrections (o ∷ p ∷ []) limit w ≡ map (λ e. (o, e)) es ++ (map (λ e. (p, e)) ds ++ [])
corrections_two limit w o p es ds he hd = ap₂ (λ (u v : List ℕ). map {B = Offset × ℕ} (λ e. (o, e)) u ++ (map {B = Offset × ℕ} (λ e. (p, e)) v ++ [])) he hd

-- ---- valid or not

pub reads_valid : (w x : ℕ) (wanted : Wanted) (limit : ℕ) (o : Offset) → IsValid w x o → reading w x wanted limit ≡ Valid o (information w)
reads_valid w x wanted limit o h = grind (arith, common_steps, eq-eqb)

pub reads_corrected : (w x : ℕ) (wanted : Wanted) (limit : ℕ) → ((o : Offset) → IsValid w x o → ⊥) → reading w x wanted limit ≡ corrected w x wanted limit
reads_corrected w x wanted limit not_valid = by_offset (offset_of (rem w)) refl
  where
    by_offset : (found : Option Offset) → offset_of (rem w) ≡ found → read_from w x wanted limit found ≡ corrected w x wanted limit
    by_offset None e = refl
    by_offset (Some o) e =
        ap (λ (b : Bool). elim b as (λ _. Reading) [ true ↦ Valid o (information w) | false ↦ corrected w x wanted limit ])
        (ne_eqb (number o) x (λ own. not_valid o record { offset = e; own = own }))

-- whether a window is valid
pub valid_or_not : (w x : ℕ) → ((o : Offset) × IsValid w x o) ⊎ ((o : Offset) → IsValid w x o → ⊥)
valid_or_not w x = by_offset (offset_of (rem w)) refl
  where
    by_offset : (found : Option Offset) → offset_of (rem w) ≡ found → ((o : Offset) × IsValid w x o) ⊎ ((o : Offset) → IsValid w x o → ⊥)
    by_offset None e = inr (λ o h. let no : ◌≡◌ {A = Option Offset} None (Some o) = sym e ∙ h.offset in cc no)
    by_offset (Some o) e = elim (cases_eq (number o) x) [
      | inl own ↦ inl (o, record { offset = e; own = own })
      | inr other ↦ inr (λ p h. let same : ◌≡◌ {A = Option Offset} (Some o) (Some p) = sym e ∙ h.offset in let here : o ≡ p = cc same in other (ap number here ∙ h.own))
    ]

-- ---- the computed reading is the rule's

-- if only one offset may be wanted
single : (w x : ℕ) (wanted : Wanted) (limit : ℕ) (o : Offset) → limit ≤ 5 → wanted_offsets x wanted ≡ o ∷ [] → number o ≡ x → IsTrue (allows wanted o)
    → ((p : Offset) → number p ≡ x → IsTrue (allows wanted p) → p ≡ o) → ((p : Offset) → IsValid w x p → ⊥) → IsReading w x wanted limit (corrected w x wanted limit)
single w x wanted limit o few list own allowed alone not_valid = grind (arith, common_steps, fits_or_not, corrections_none, corrections_one)

-- for block 3, where C and C' are both wanted
double : (w limit : ℕ) → limit ≤ 5 → ((p : Offset) → IsValid w 3 p → ⊥) → IsReading w 3 Either limit (corrected w 3 Either limit)
double w limit few not_valid = by_fits (fits_or_not limit w C few) (fits_or_not limit w Cx few)
  where
    by_fits : NoneFits limit w C ⊎ ((e : ℕ) × OneFits limit w C e) → NoneFits limit w Cx ⊎ ((e : ℕ) × OneFits limit w Cx e) → IsReading w 3 Either limit (corrected w 3 Either limit)
    by_fits (inl a) (inl b) = grind (arith, common_steps, third, corrections_two limit w C Cx [] [] a.list b.list)
    by_fits (inr a) (inl b) = grind (arith, common_steps, third, corrections_two limit w C Cx (a.0 ∷ []) [] a.1.list b.list)
    by_fits (inl a) (inr b) = grind (arith, common_steps, third, corrections_two limit w C Cx [] (b.0 ∷ []) a.list b.1.list)
    by_fits (inr a) (inr b) =
        let e : corrected w 3 Either limit ≡ Lost = ap (by_only w) (corrections_two limit w C Cx (a.0 ∷ []) (b.0 ∷ []) a.1.list b.1.list) in
        subst (IsReading w 3 Either limit) (sym e) (
          not_valid,
          λ p d fit.
              let one = fit.alone C a.0 record { own = refl; allowed = refl; burst = a.1.burst; fits = a.1.fits } in
              let other = fit.alone Cx b.0 record { own = refl; allowed = refl; burst = b.1.burst; fits = b.1.fits } in
              let no : C ≡ Cx = one.0 ∙ sym other.0 in cc no,
        )

-- which offsets are wanted
pub wanted_1 : (wanted : Wanted) → (wanted_offsets 1 wanted ≡ A ∷ []) × IsTrue (allows wanted A)
wanted_1 wanted = grind (arith, common_steps)

pub wanted_2 : (wanted : Wanted) → (wanted_offsets 2 wanted ≡ B ∷ []) × IsTrue (allows wanted B)
wanted_2 wanted = grind (arith, common_steps)

pub wanted_4 : (wanted : Wanted) → (wanted_offsets 4 wanted ≡ D ∷ []) × IsTrue (allows wanted D)
wanted_4 wanted = grind (arith, common_steps)

only_C : (p : Offset) → number p ≡ 3 → IsTrue (allows OnlyC p) → p ≡ C
only_C p h allowed = grind (arith, common_steps)

only_Cx : (p : Offset) → number p ≡ 3 → IsTrue (allows OnlyCx p) → p ≡ Cx
only_Cx p h allowed = grind (arith, common_steps)

corrected_is : (w x : ℕ) (wanted : Wanted) (limit : ℕ) → 1 ≤ x → x ≤ 4 → limit ≤ 5 → ((p : Offset) → IsValid w x p → ⊥) → IsReading w x wanted limit (corrected w x wanted limit)
corrected_is w zero wanted limit low high few not_valid = absurd (omega arith)
corrected_is w (suc zero) wanted limit low high few not_valid = single w 1 wanted limit A few (wanted_1 wanted).0 refl (wanted_1 wanted).1 (λ p own _. only_A p own) not_valid
corrected_is w (suc (suc zero)) wanted limit low high few not_valid = single w 2 wanted limit B few (wanted_2 wanted).0 refl (wanted_2 wanted).1 (λ p own _. only_B p own) not_valid
corrected_is w (suc (suc (suc zero))) OnlyC limit low high few not_valid = single w 3 OnlyC limit C few refl refl refl only_C not_valid
corrected_is w (suc (suc (suc zero))) OnlyCx limit low high few not_valid = single w 3 OnlyCx limit Cx few refl refl refl only_Cx not_valid
corrected_is w (suc (suc (suc zero))) Either limit low high few not_valid = double w limit few not_valid
corrected_is w (suc (suc (suc (suc zero)))) wanted limit low high few not_valid = single w 4 wanted limit D few (wanted_4 wanted).0 refl (wanted_4 wanted).1 (λ p own _. only_D p own) not_valid
corrected_is w (suc (suc (suc (suc (suc x))))) wanted limit low high few not_valid = absurd (omega arith)

-- the computed reading is the rule's
pub reading_is : (w x : ℕ) (wanted : Wanted) (limit : ℕ) → 1 ≤ x → x ≤ 4 → limit ≤ 5 → IsReading w x wanted limit (reading w x wanted limit)
reading_is w x wanted limit low high few = elim (valid_or_not w x) [
  | inl some ↦ subst (IsReading w x wanted limit) (sym (reads_valid w x wanted limit some.0 some.1)) (some.1, refl)
  | inr none ↦ subst (IsReading w x wanted limit) (sym (reads_corrected w x wanted limit none)) (corrected_is w x wanted limit low high few none)
]

valid_is_one : (w x : ℕ) (o p : Offset) → IsValid w x o → IsValid w x p → o ≡ p
valid_is_one w x o p ho hp = let same : ◌≡◌ {A = Option Offset} (Some o) (Some p) = sym ho.offset ∙ hp.offset in cc same

-- the rule gives one reading
pub reading_is_one : (w x : ℕ) (wanted : Wanted) (limit : ℕ) (r s : Reading) → IsReading w x wanted limit r → IsReading w x wanted limit s → r ≡ s
reading_is_one w x wanted limit r s hr hs = grind (arith, common_steps, valid_is_one)
