-- The error masks of n bit errors: that the list of them is exactly they, each once.
use Rattle.rds_code.proofs.Names.{common_steps, ◌≡◌, ℕ, zero, suc, ◌+◌, ◌-◌, ◌*◌, ◌^◌, ◌<◌, ◌≤◌, [], ◌∷◌, true, false, map, refl, sym, ap, ◌∙◌, arith, inl, inr, lit<, pow-suc, ones, ones_cat, ones-le, cases_lt, error_masks, ListsAllErrorMasks}
use Rattle.rds_code.proofs.Membership.{is_among, all_differ, among_head, among_tail, among_map, among_left, among_right, among_either, among_contains, contains_among, from_map, differ_map, differ_append, differ_pairs}

one_is : ones 1 ≡ 1
unfolding ones
one_is = refl

none_is : ones 0 ≡ 0
none_is = omega (arith, ones-le 0 0 (lit< tt))

-- a one above the k lowest digits is one more
ones_above : (k r : ℕ) → r < 2 ^ k → ones (2 ^ k + r) ≡ suc (ones r)
ones_above k r small =
    let whole : 2 ^ k + r ≡ 1 * 2 ^ k + r = omega arith in
    omega (arith, ap ones whole, ones_cat k 1 r small, one_is)

is_zero : (e : ℕ) → is_among e (0 ∷ []) ≡ true → e ≡ 0
is_zero e h = grind (arith, common_steps, among_tail, is_among)

-- each of the list has n ones below 2 ^ k
pub masks_are : (n k e : ℕ) → is_among e (error_masks n k) ≡ true → (e < 2 ^ k) × (ones e ≡ n)
masks_are zero k e h =
    let same = is_zero e h in
    (omega (arith, same, pow_pos k), ap ones same ∙ none_is)
  where
    pow_pos : (k : ℕ) → 0 < 2 ^ k
    pow_pos zero = omega arith
    pow_pos (suc k) = omega (arith, pow_pos k, pow-suc 2 k)
masks_are (suc n) zero e h = let no : false ≡ true = h in absurd (cc no)
masks_are (suc n) (suc k) e h = grind (arith, common_steps, among_either, pow-suc, from_map, ones_above, is_among, masks_are (suc n) k e, masks_are n k)

-- and each such word is in the list
masks_hold : (k n e : ℕ) → e < 2 ^ k → ones e ≡ n → is_among e (error_masks n k) ≡ true
masks_hold zero n e small many = grind (arith, common_steps, none_is, is_among, among_head)
masks_hold (suc k) n e small many = elim (cases_lt e (2 ^ k)) [ inl low ↦ below n (masks_hold k n e low many) | inr high ↦ above n many (omega (arith, small, pow-suc 2 k, high)) high (λ m fewer. masks_hold k m (e - 2 ^ k) (omega (arith, small, pow-suc 2 k, high)) fewer) ]
  where
    below : (n : ℕ) → is_among e (error_masks n k) ≡ true → is_among e (error_masks n (suc k)) ≡ true
    below zero h = h
    below (suc n) h = among_left e (error_masks (suc n) k) (map (λ d. 2 ^ k + d) (error_masks n k)) h

    above : (n : ℕ) → ones e ≡ n → e - 2 ^ k < 2 ^ k → 2 ^ k ≤ e → ((m : ℕ) → ones (e - 2 ^ k) ≡ m → is_among (e - 2 ^ k) (error_masks m k) ≡ true) → is_among e (error_masks n (suc k)) ≡ true
    above zero many rest high hold = let split : 2 ^ k + (e - 2 ^ k) ≡ e = omega (arith, high) in absurd (omega (arith, many, ap ones (sym split), ones_above k (e - 2 ^ k) rest))
    above (suc n) many rest high hold =
        let split : 2 ^ k + (e - 2 ^ k) ≡ e = omega (arith, high) in
        let fewer : ones (e - 2 ^ k) ≡ n = omega (arith, many, ap ones (sym split), ones_above k (e - 2 ^ k) rest) in
        let found = among_map (λ d. 2 ^ k + d) (e - 2 ^ k) (error_masks n k) (hold n fewer) in
        among_right e (error_masks (suc n) k) (map (λ d. 2 ^ k + d) (error_masks n k)) (ap (λ (x : ℕ). is_among x (map (λ d. 2 ^ k + d) (error_masks n k))) (sym split) ∙ found)

masks_differ : (n k : ℕ) → all_differ (error_masks n k) ≡ true
masks_differ zero k = refl
masks_differ (suc n) zero = refl
masks_differ (suc n) (suc k) =
    differ_append (error_masks (suc n) k) (map (λ d. 2 ^ k + d) (error_masks n k)) (masks_differ (suc n) k)
    (differ_map (λ d. 2 ^ k + d) (error_masks n k) (masks_differ n k) (λ x y hx hy same. omega (arith, same)))
    (λ e left right.
    let low = masks_are (suc n) k e left in
    let from = from_map (λ d. 2 ^ k + d) e (error_masks n k) right in
    omega (arith, low.0, from.2))

pub lists_all_error_masks : ListsAllErrorMasks
lists_all_error_masks n k = record {
  exactly = λ e. (
    λ listed. masks_are n k e (contains_among e (error_masks n k) listed),
    λ is. among_contains e (error_masks n k) (masks_hold k n e is.0 is.1),
  );
  distinct = differ_pairs (error_masks n k) (masks_differ n k);
}
