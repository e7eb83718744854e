-- The offsets of places, and the valid windows one place on.
use Rattle.rds_stream.proofs.Names.{common_steps, suc, zero, ◌≡◌, ℕ, ◌+◌, ◌<◌, ◌≤◌, refl, sym, ap, ◌∙◌, arith, [], ◌∷◌, ◌++◌, Some, None, true, false, IsSome, inl, inr, true≢false, cases_Bool, cases_lt, lt-ltb, le-ltb, range_with_len, cons_option, map-id, append-nil, map-range_with_len_more, Offset, rem, offset_of, Signal, window, touched, heard, offset_heard, offset_at, valid_at, valid_windows, filter_map-append}

pub off_early : (b : Signal) (p : ℕ) → p < 25 → offset_at b p ≡ None
unfolding offset_at
off_early b p early = ap (λ t. elim t [ true ↦ None | false ↦ offset_heard (heard b p) ]) (lt-ltb p 25 early)

pub off_late : (b : Signal) (p : ℕ) → 25 ≤ p → offset_at b p ≡ offset_heard (heard b p)
unfolding offset_at
off_late b p late = ap (λ t. elim t [ true ↦ None | false ↦ offset_heard (heard b p) ]) (le-ltb p 25 late)

pub heard_touched : (b : Signal) (p : ℕ) → touched b p ≡ true → heard b p ≡ None
unfolding heard
heard_touched b p is = ap (λ t. elim t [ true ↦ None | false ↦ Some (window b.bits p) ]) is

pub heard_clear : (b : Signal) (p : ℕ) → touched b p ≡ false → heard b p ≡ Some (window b.bits p)
unfolding heard
heard_clear b p is = ap (λ t. elim t [ true ↦ None | false ↦ Some (window b.bits p) ]) is

-- a window that touches no gap has the offset of its remainder, and one that does has none
pub off_clear : (b : Signal) (p : ℕ) → 25 ≤ p → touched b p ≡ false → offset_at b p ≡ offset_of (rem (window b.bits p))
off_clear b p late is = off_late b p late ∙ ap offset_heard (heard_clear b p is)

pub off_touched : (b : Signal) (p : ℕ) → touched b p ≡ true → offset_at b p ≡ None
off_touched b p is = elim (cases_lt p 25) [ inl early ↦ off_early b p early | inr late ↦ off_late b p late ∙ ap offset_heard (heard_touched b p is) ]

-- a window without an offset as it is stored has none
pub off_not_stored : (b : Signal) (p : ℕ) → 25 ≤ p → offset_of (rem (window b.bits p)) ≡ None → offset_at b p ≡ None
off_not_stored b p late none = elim (cases_Bool (touched b p)) [ inl is ↦ off_touched b p is | inr is ↦ off_clear b p late is ∙ none ]

-- where a place has an offset, that is its remainder's
pub off_stored : (b : Signal) (p : ℕ) → IsSome (offset_at b p) → offset_at b p ≡ offset_of (rem (window b.bits p))
off_stored b p some = grind (arith, common_steps, true≢false, off_early, off_touched, off_clear)

range_more : (a n : ℕ) → range_with_len a (n + 1) ≡ range_with_len a n ++ (a + n) ∷ []
range_more a n = sym (map-id (range_with_len a (n + 1))) ∙ map-range_with_len_more (λ x. x) a n (a + n) refl ∙ ap (λ xs. xs ++ (a + n) ∷ []) (map-id (range_with_len a n))

-- one place more
valid_more : (b : Signal) (from p : ℕ) → from ≤ p → valid_windows b from (p + 1) ≡ valid_windows b from p ++ cons_option (valid_at b p) []
valid_more b from p order = grind (arith, common_steps, range_more, filter_map-append)

pub valid_without : (b : Signal) (from p : ℕ) → from ≤ p → offset_at b p ≡ None → valid_windows b from p ≡ valid_windows b from (p + 1)
valid_without b from p order none = grind (arith, common_steps, valid_more, append-nil)

pub valid_with : (b : Signal) (from p : ℕ) (offset : Offset) → from ≤ p → offset_at b p ≡ Some offset →
    valid_windows b from p ++ (p, offset) ∷ [] ≡ valid_windows b from (p + 1)
valid_with b from p offset order some = grind (arith, common_steps, valid_more)

-- places that have no offset add nothing
pub valid_over : (b : Signal) (from p n : ℕ) → from ≤ p → ((j : ℕ) → p ≤ j → j < p + n → offset_at b j ≡ None) → valid_windows b from (p + n) ≡ valid_windows b from p
valid_over b from p zero order none = let same : p + 0 ≡ p = omega arith in ap (valid_windows b from) same
valid_over b from p (suc n) order none = grind (arith, common_steps, valid_without, valid_over b from p n order (λ j low high. none j low (omega arith)))
