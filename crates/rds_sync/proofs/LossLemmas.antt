-- A lock's loss history says when it is lost.
use Rattle.rds_sync.proofs.Names.{common_steps, ◌≡◌, ℕ, zero, suc, ◌+◌, ◌-◌, ◌*◌, ◌%◌, ◌^◌, ◌<◌, ◌≤◌, min, List, [], ◌∷◌, ◌++◌, Bool, true, false, refl, sym, ap, ◌∙◌, arith, inl, inr, cond, div-add-mod, mod-lt, mod-eq_of_lt, pow-suc, mod-mul-add, and-false, pow_pos, cases_Bool, cases_eq, cases_lt, le-leb, lt-leb, le-ltb, lt-ltb, sum_by_push, ones, ones_step, bit_at-zero, bit_at_lowest, bit_at-suc, bit_at, nat_le, nat_lt, not, count_by, count_ones, list_all, range_with_len, Loss, Run, Share, MasksTellBlocks, IsLossRule, IsLawfulBad, bad_at, bad_after, are_too_many, last_blocks, loses, ◌/◌, bit_and, pow-add, IsTrue, leb, ◌↔◌, subst, mul-add-mod_self_right, and_mask, ones_shr}
use Rattle.std.proofs.lemmas.Bool.Decides.{nat_tests}

all_pass : (p : ℕ → Bool) (c d : ℕ) → ((j : ℕ) → c ≤ j → j < c + d → p j ≡ true) → list_all p (range_with_len c d) ≡ true
all_pass p c zero h = refl
all_pass p c (suc d) h = rw (h c (omega arith) (omega arith)) (all_pass p (c + 1) d (λ j l u. h j (omega arith) (omega arith)))

one_fails : (p : ℕ → Bool) (c d j : ℕ) → c ≤ j → j < c + d → p j ≡ false → list_all p (range_with_len c d) ≡ false
one_fails p c zero j l u e = absurd (omega arith)
one_fails p c (suc d) j l u e = elim (cases_eq c j) [
  | inl same ↦ rw (ap p same ∙ e) refl
  | inr other ↦ rw (one_fails p (c + 1) d j (omega arith) (omega arith) e, and-false) refl
]

-- one number more at the end of a range
range_push : (a n c : ℕ) → a + n ≡ c → range_with_len a (suc n) ≡ range_with_len a n ++ c ∷ []
range_push a zero c e = let same : a ≡ c = omega arith in ap (λ (j : ℕ). j ∷ []) same
range_push a (suc n) c e = ap (λ (js : List ℕ). a ∷ js) (range_push (a + 1) n c (omega arith))

-- a digit more below: the remainder by twice the number keeps it
pub double : (m f d : ℕ) → f ≤ 1 → 1 ≤ d → (2 * m + f) % (2 * d) ≡ 2 * (m % d) + f
double m f d small some = grind (arith, common_steps, div-add-mod, mod-lt, mod-mul-add)

pub ones_below : (m f : ℕ) → f ≤ 1 → count_ones (2 * m + f) ≡ count_ones m + f
ones_below m f small = grind (arith, common_steps, ones_step, ones)

module _ (is_good : ℕ → Bool) where
  -- the bad blocks in a row up to block k
  abbrev row : ℕ → ℕ
  row zero = 0
  row (suc k) = cond (is_good (suc k)) 0 (row k + 1)

  row_is : (n k : ℕ) → bad_at is_good (Run n) k ≡ row k
  row_is n zero = refl
  row_is n (suc k) = ap (bad_after (Run n) (is_good (suc k))) (row_is n k)

  row_good : (k : ℕ) → is_good (suc k) ≡ true → row (suc k) ≡ 0
  row_good k e = rw e refl

  row_more : (k : ℕ) → is_good (suc k) ≡ false → row (suc k) ≡ row k + 1
  row_more k e = rw e refl

  row_le : (k : ℕ) → row k ≤ k
  row_le zero = omega arith
  row_le (suc k) = grind (arith, common_steps, cases_Bool, row_good, row_more, row_le k)

  row_back : (k j : ℕ) → k < j + row k → j ≤ k → is_good j ≡ false
  row_back zero j l u = absurd (omega arith)
  row_back (suc k) j l u = elim (cases_Bool (is_good (suc k))) [
    | inl good ↦ let e = row_good k good in absurd (omega arith)
    | inr ill ↦ let e = row_more k ill in elim (cases_eq j (suc k)) [
      | inl same ↦ rw same ill
      | inr other ↦ row_back k j (omega arith) (omega arith)
    ]
  ]

  row_stop : (k : ℕ) → row k < k → (j : ℕ) × (j + row k ≡ k) × (is_good j ≡ true)
  row_stop zero h = absurd (omega arith)
  row_stop (suc k) h = elim (cases_Bool (is_good (suc k))) [
    | inl good ↦ let e = row_good k good in (suc k, omega arith, good)
    | inr ill ↦ let e = row_more k ill in let r = row_stop k (omega arith) in (r.0, omega (arith, r.1), r.2)
  ]

  row_keeps : (n k : ℕ) → row k < n → loses (Run n) is_good k ≡ false
  row_keeps n k h = elim (cases_lt k n) [
    | inl few ↦ rw (lt-leb n k few) refl
    | inr many ↦
        let r = row_stop k (omega arith) in
        let good : is_good r.0 ≡ true = r.2 in
        let where_is : r.0 + row k ≡ k = r.1 in
        rw (one_fails (λ j. not (is_good j)) (k + 1 - n) n r.0 (omega arith) (omega arith) (rw good refl)) (and-false (nat_le n k))
  ]

  -- 1 for a bad block
  abbrev flag : ℕ → ℕ
  flag k = cond (is_good k) 0 1

  flag_le : (k : ℕ) → flag k ≤ 1
  flag_le k = grind (arith, common_steps, cases_Bool)

  -- the mask of the last v blocks
  abbrev mask : ℕ → ℕ → ℕ
  mask v zero = 0
  mask v (suc k) = (2 * mask v k + flag (suc k)) % 2 ^ v

  mask_is : (n v k : ℕ) → bad_at is_good (Share n v) k ≡ mask v k
  mask_is n v zero = refl
  mask_is n v (suc k) = ap (bad_after (Share n v) (is_good (suc k))) (mask_is n v k)

  -- the mask of one block more, from the shorter one before it
  mask_next : (v k : ℕ) → mask (suc v) k % 2 ^ v ≡ mask v k → mask (suc v) (suc k) ≡ 2 * mask v k + flag (suc k)
  mask_next v k half = grind (arith, common_steps, pow-suc, pow_pos, double, flag_le)

  mask_half : (v k : ℕ) → mask (suc v) k % 2 ^ v ≡ mask v k
  mask_half v zero = let some : 1 ≤ 2 ^ v = omega (arith, pow_pos v) in mod-eq_of_lt {n = 0} {m = 2 ^ v} some
  mask_half v (suc k) = ap (λ (m : ℕ). m % 2 ^ v) (mask_next v k (mask_half v k))

  -- how many of the last v blocks are bad
  abbrev bads : ℕ → ℕ → ℕ
  bads zero k = 0
  bads (suc v) zero = 0
  bads (suc v) (suc k) = bads v k + flag (suc k)

  ones_are : (v k : ℕ) → count_ones (mask v k) ≡ bads v k
  unfolding ones
  ones_are zero zero = refl
  ones_are zero (suc k) = let none : (2 * mask 0 k + flag (suc k)) % 1 ≡ 0 = omega arith in ap count_ones none
  ones_are (suc v) zero = refl
  ones_are (suc v) (suc k) = grind (arith, common_steps, count_ones, mask_next, mask_half, ones_below, flag_le, ones_are v k)

  last_more : (v k : ℕ) → last_blocks (suc v) (suc k) ≡ last_blocks v k ++ suc k ∷ []
  last_more v k = grind (arith, common_steps, range_push)

  bads_are : (v k : ℕ) → count_by (λ j. not (is_good j)) (last_blocks v k) ≡ bads v k
  bads_are zero k = let none : min 0 k ≡ 0 = omega arith in ap (λ (n : ℕ). count_by (λ j. not (is_good j)) (range_with_len (k + 1 - n) n)) none
  bads_are (suc v) zero = let none : min (suc v) 0 ≡ 0 = omega arith in ap (λ (n : ℕ). count_by (λ j. not (is_good j)) (range_with_len (0 + 1 - n) n)) none
  bads_are (suc v) (suc k) = grind (arith, common_steps, count_by, not, last_more, sum_by_push, last_blocks, bads_are v k)

  -- a lock is lost by its loss history exactly when its blocks lose it
  pub loses_is : (loss : Loss) (k : ℕ) → are_too_many loss (bad_at is_good loss k) ≡ loses loss is_good k
  loses_is loss k = grind (arith, common_steps, are_too_many, row_is, row, nat_le, loses, lt-leb, row_keeps, le-leb, mask_is, ones_are, bads_are, row_le, all_pass, row_back)

  none_lost : (loss : Loss) → IsLossRule loss → are_too_many loss 0 ≡ false
  unfolding ones
  none_lost loss h = grind (arith, common_steps, lt-leb)

  pub never_0 : (loss : Loss) → IsLossRule loss → loses loss is_good 0 ≡ false
  never_0 loss h = sym (loses_is loss 0) ∙ none_lost loss h

  bads_le : (v k : ℕ) → bads v k ≤ v
  bads_le zero k = omega arith
  bads_le (suc v) zero = omega arith
  bads_le (suc v) (suc k) = omega (arith, bads_le v k, flag_le (suc k))

  -- all of the last v blocks are bad exactly where v are bad in a row
  all_bad : (v k : ℕ) → v ≤ bads v k → v ≤ row k
  all_bad zero k h = omega arith
  all_bad (suc v) zero h = absurd (omega (arith, h))
  all_bad (suc v) (suc k) h = grind (arith, common_steps, flag, bads_le, flag_le, row_more, all_bad v k (omega (arith, h, (flag_le (suc k)))))

  in_a_row : (v k : ℕ) → v ≤ row k → v ≤ bads v k
  in_a_row zero k h = omega arith
  in_a_row (suc v) zero h = absurd (omega (arith, h))
  in_a_row (suc v) (suc k) h = elim (cases_Bool (is_good (suc k))) [
    | inl good ↦ absurd (omega (arith, h, row_good k good))
    | inr ill ↦ grind (arith, common_steps, flag, row_more, in_a_row v k (omega (arith, h, row_more k ill)))
  ]

  pub run_is_share : (n k : ℕ) → loses (Run n) is_good k ≡ loses (Share n n) is_good k
  run_is_share n k = grind (arith, common_steps, row, nat_le, bads_are, loses, bads, row_keeps, lt-leb, all_bad, le-leb, in_a_row, row_le, all_pass, row_back)

  past : (v k i : ℕ) → min v k ≤ i → cond (nat_lt i (min v k)) (flag (k - i)) 0 ≡ 0
  past v k i h = ap (λ (t : Bool). cond t (flag (k - i)) 0) (le-ltb i (min v k) h)

  -- digit i of the mask is block k - i: 0 for a block that was not read
  digits : (v k i : ℕ) → bit_at (mask v k) i ≡ cond (nat_lt i (min v k)) (flag (k - i)) 0
  digits zero zero i = bit_at-zero i ∙ sym (past 0 0 i (omega arith))
  digits zero (suc k) i = grind (arith, common_steps, mask, flag, bit_at, bit_at-zero, past)
  digits (suc v) zero i = bit_at-zero i ∙ sym (past (suc v) 0 i (omega arith))
  digits (suc v) (suc k) zero = grind (arith, common_steps, mask, flag, flag_le, bit_at, mask_next, mask_half, bit_at_lowest, lt-ltb, min)
  digits (suc v) (suc k) (suc i) = grind (arith, common_steps, mask, flag, flag_le, bit_at, mask_next, mask_half, bit_at-suc, min, nat_lt, lt-ltb, le-ltb, digits v k i)

pub masks_tell : MasksTellBlocks
masks_tell is_good bad of k i = ap (λ (m : ℕ). bit_at m i) (mask_is is_good bad of k) ∙ digits is_good of k i

pub ones_zero : count_ones 0 ≡ 0
unfolding ones
ones_zero = refl

-- a good block leaves none
pub none-kept : (loss : Loss) → bad_after loss true 0 ≡ 0
none-kept loss = grind (arith, common_steps, pow_pos, mod-eq_of_lt)

-- lawful: none, and the loss history of a lock that is not lost
pub lawful_none : (loss : Loss) → IsLossRule loss → IsLawfulBad loss 0
lawful_none loss h = grind (arith, common_steps, pow_pos, ones_zero)

pub lawful_kept : (loss : Loss) (bad : ℕ) (good : Bool) → IsLawfulBad loss bad → are_too_many loss (bad_after loss good bad) ≡ false → IsLawfulBad loss (bad_after loss good bad)
lawful_kept loss bad good h e = grind (arith, common_steps, mod-lt, pow_pos)

-- The mask of the last blocks, in a word.

-- the `of` lowest ones
pub low_ones : (of : ℕ) → of ≤ 64 → (2 ^ 64 - 1) / 2 ^ (64 - of) ≡ 2 ^ of - 1
low_ones of few = grind (arith, common_steps, ones_shr, ones_shr 64 (64 - of) (omega arith))

wraps : (m f d e w : ℕ) → w ≡ e * d → (m * 2 % w + f) % d ≡ (2 * m + f) % d
wraps m f d e w is =
    let whole : w * (m * 2 / w) + m * 2 % w ≡ m * 2 = div-add-mod (m * 2) w in
    let product : w * (m * 2 / w) ≡ e * d * (m * 2 / w) = ap (λ (n : ℕ). n * (m * 2 / w)) is in
    let parts : 2 * m + f ≡ (m * 2 / w * e) * d + (m * 2 % w + f) = omega (arith, whole, product) in
    sym (ap (λ (n : ℕ). n % d) parts ∙ mul-add-mod_self_right (m * 2 / w * e) d (m * 2 % w + f))

pub mask_word : (m f of : ℕ) → of ≤ 64 → bit_and (m * 2 % 2 ^ 64 + f) ((2 ^ 64 - 1) / 2 ^ (64 - of)) ≡ (2 * m + f) % 2 ^ of
mask_word m f of few =
    let all : 64 - of + of ≡ 64 = omega arith in
    ap (bit_and (m * 2 % 2 ^ 64 + f)) (low_ones of few)
    ∙ and_mask (m * 2 % 2 ^ 64 + f) of
    ∙ wraps m f (2 ^ of) (2 ^ (64 - of)) (2 ^ 64) (ap (λ (n : ℕ). 2 ^ n) (sym all) ∙ pow-add 2 (64 - of) of)

by_bound : (m n : ℕ) → 0 < n → IsTrue (leb m (n - 1)) ↔ (m < n)
by_bound m n some = grind (arith, nat_tests)

pub within_ones : (mask of : ℕ) → of ≤ 64 → IsTrue (leb mask ((2 ^ 64 - 1) / 2 ^ (64 - of))) ↔ (mask < 2 ^ of)
within_ones mask of few = subst (λ (n : ℕ). IsTrue (leb mask n) ↔ (mask < 2 ^ of)) (sym (low_ones of few)) (by_bound mask (2 ^ of) (pow_pos of))
