-- The least weight is below that of any flips, the lightest flips have it, and all others weigh at least the second.
use Rattle.rds_soft.proofs.Names.{common_steps, ◌≡◌, ℕ, zero, suc, ◌+◌, ◌-◌, ◌*◌, ◌^◌, ◌<◌, ◌≤◌, refl, sym, ap, ◌∙◌, arith, bit_xor, subst, ◌⊎◌, inl, inr, lit<, bit_at, xor_self, xor_zero_r, xor_assoc, pow-suc, zero-mul, one-mul, min-le_left, min-le_right, cases_lt, xor_comm, bit_at_cat_low, bit_at_cat_high, bit_at_lowest, sum_of, weigh, of_none, least, second}

-- to take away what was added
pub undone : (a b : ℕ) → bit_xor (bit_xor a b) b ≡ a
undone a b = xor_assoc a b b ∙ ap (bit_xor a) (xor_self b) ∙ xor_zero_r a

-- the lower bits alone count for the lower symbols
pub low_sum : (e : ℕ → ℕ) (n m bit rest : ℕ) → n ≤ m → sum_of e n (bit * 2 ^ m + rest) ≡ sum_of e n rest
unfolding sum_of
low_sum e zero m bit rest le = refl
low_sum e (suc n) m bit rest le = grind (arith, common_steps, bit_at_cat_low, low_sum e n m bit rest (omega (arith, le)))

pub low_weigh : (c : ℕ → ℕ) (n m bit rest : ℕ) → n ≤ m → weigh c n (bit * 2 ^ m + rest) ≡ weigh c n rest
unfolding weigh
low_weigh c zero m bit rest le = refl
low_weigh c (suc n) m bit rest le = grind (arith, common_steps, bit_at_cat_low, low_weigh c n m bit rest (omega (arith, le)))

top_bit : (bit n rest : ℕ) → bit < 2 → rest < 2 ^ n → bit_at (bit * 2 ^ n + rest) n ≡ bit
top_bit bit n rest few small = grind (arith, common_steps, bit_at_cat_high, bit_at_lowest)

sum_with : (e : ℕ → ℕ) (n rest : ℕ) → rest < 2 ^ n → sum_of e (suc n) (1 * 2 ^ n + rest) ≡ bit_xor (sum_of e n rest) (e n)
unfolding sum_of
sum_with e n rest small = grind (arith, common_steps, top_bit, lit<, low_sum, one-mul, xor_comm)

weigh_with : (c : ℕ → ℕ) (n rest : ℕ) → rest < 2 ^ n → weigh c (suc n) (1 * 2 ^ n + rest) ≡ c n + weigh c n rest
unfolding weigh
weigh_with c n rest small = grind (arith, common_steps, top_bit, lit<, low_weigh, one-mul)

-- flips of n + 1 symbols without symbol n, and with it
pub record Without (e c : ℕ → ℕ) (n flips : ℕ) : Type 0 where
  pub small : flips < 2 ^ n
  pub sum : sum_of e (suc n) flips ≡ sum_of e n flips
  pub weight : weigh c (suc n) flips ≡ weigh c n flips

pub record With (e c : ℕ → ℕ) (n flips rest : ℕ) : Type 0 where
  pub whole : flips ≡ 2 ^ n + rest
  pub small : rest < 2 ^ n
  pub sum : sum_of e (suc n) flips ≡ bit_xor (sum_of e n rest) (e n)
  pub weight : weigh c (suc n) flips ≡ c n + weigh c n rest

pub without : (e c : ℕ → ℕ) (n flips : ℕ) → flips < 2 ^ n → Without e c n flips
unfolding sum_of weigh
without e c n flips small =
    let whole : flips ≡ 0 * 2 ^ n + flips = omega arith in
    let none : bit_at flips n ≡ 0 = ap (λ (f : ℕ). bit_at f n) whole ∙ top_bit 0 n flips (lit< tt) small in
    record {
      small = small;
      sum = ap (λ (b : ℕ). bit_xor (b * e n) (sum_of e n flips)) none ∙ ap (λ (x : ℕ). bit_xor x (sum_of e n flips)) (zero-mul (e n))
          ∙ xor_comm 0 (sum_of e n flips) ∙ xor_zero_r (sum_of e n flips);
      weight = ap (λ (b : ℕ). b * c n + weigh c n flips) none ∙ omega (arith, zero-mul (c n));
    }

pub with_top : (e c : ℕ → ℕ) (n flips rest : ℕ) → flips ≡ 2 ^ n + rest → rest < 2 ^ n → With e c n flips rest
with_top e c n flips rest is small =
    let whole : flips ≡ 1 * 2 ^ n + rest = omega (arith, is) in
    record {
      whole = is;
      small = small;
      sum = ap (sum_of e (suc n)) whole ∙ sum_with e n rest small;
      weight = ap (weigh c (suc n)) whole ∙ weigh_with c n rest small;
    }

pub split : (e c : ℕ → ℕ) (n flips : ℕ) → flips < 2 ^ suc n → Without e c n flips ⊎ ((rest : ℕ) × With e c n flips rest)
split e c n flips small = elim (cases_lt flips (2 ^ n)) [
  | inl low ↦ inl (without e c n flips low)
  | inr high ↦ inr (flips - 2 ^ n, with_top e c n flips (flips - 2 ^ n) (omega (arith, high)) (omega (arith, high, small, pow-suc 2 n)))
]

-- the least weight is at most 255
pub least_small : (e c : ℕ → ℕ) (n s : ℕ) → least e c n s ≤ 255
unfolding least
least_small e c zero zero = omega (arith)
least_small e c zero (suc s) = omega (arith)
least_small e c (suc n) s = omega (arith, least_small e c n s, min-le_left (least e c n s) (least e c n (bit_xor s (e n)) + c n))

pub second_small : (e c : ℕ → ℕ) (n s : ℕ) → second e c n s ≤ 255
unfolding second
second_small e c zero s = omega (arith)
second_small e c (suc n) s = grind (arith, common_steps, min-le_right, min-le_left, least_small, second_small e c n s)

-- flips of n symbols with the sum s
pub record Reach (e : ℕ → ℕ) (n s flips : ℕ) : Type 0 where
  pub small : flips < 2 ^ n
  pub sum : sum_of e n flips ≡ s

-- flips of one symbol more with the sum s are one of the two
pub ways : (e c : ℕ → ℕ) (n s flips : ℕ) → Reach e (suc n) s flips
    → (Without e c n flips × Reach e n s flips) ⊎ ((rest : ℕ) × With e c n flips rest × Reach e n (bit_xor s (e n)) rest)
ways e c n s flips h = elim (split e c n flips h.small) [
  | inl low ↦ inl (low, record { small = low.small; sum = sym low.sum ∙ h.sum })
  | inr high ↦
      let rest : ℕ = high.0 in
      let sum : sum_of e n rest ≡ bit_xor s (e n) = sym (undone (sum_of e n rest) (e n)) ∙ ap (λ (x : ℕ). bit_xor x (e n)) (sym high.1.sum ∙ h.sum) in
      inr (rest, high.1, record { small = high.1.small; sum = sum })
]

-- no flips weigh less than the least weight
pub least_below : (e c : ℕ → ℕ) (n s flips : ℕ) → Reach e n s flips → least e c n s ≤ weigh c n flips
unfolding least weigh sum_of
least_below e c zero s flips h = subst (λ (x : ℕ). of_none x ≤ 0) h.sum (omega arith)
least_below e c (suc n) s flips h = elim (ways e c n s flips h) [
  | inl way ↦ grind (arith, common_steps, way.0.weight, least_below e c n s flips way.1, min-le_left)
  | inr way ↦ grind (arith, common_steps, way.1.weight, least_below e c n (bit_xor s (e n)) way.0 way.2, min-le_right)
]
