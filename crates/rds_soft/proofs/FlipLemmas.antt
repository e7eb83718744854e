-- Flips of symbols, by the remainder of their mask: the sum of the effects.
use Rattle.rds_soft.proofs.Names.{common_steps, ◌≡◌, ℕ, zero, suc, ◌+◌, ◌*◌, ◌/◌, ◌%◌, ◌^◌, ◌<◌, List, sym, ap, ◌∙◌, arith, bit_xor, inl, inr, xor_self, xor_assoc, xor_shifted, xor_comm, xor_shr, xor_mod, rem, IsLinear, mask_of, weight, effect, confidence, sum_of, weigh, least, lightest, second, Leads, AreLightest}
use Rattle.rds_soft.proofs.{LightestLemmas.Reach, LightestLemmas.split, LightestLemmas.least_below, SecondLemmas.Weighs, SecondLemmas.lightest_reached, SecondLemmas.others_weigh, SecondLemmas.second_reached}

-- (a xor b) xor (c xor d) is (a xor c) xor (b xor d)
swap_inner : (a b c d : ℕ) → bit_xor (bit_xor a b) (bit_xor c d) ≡ bit_xor (bit_xor a c) (bit_xor b d)
swap_inner a b c d =
    xor_assoc a b (bit_xor c d)
    ∙ ap (λ (n : ℕ). bit_xor a n) (sym (xor_assoc b c d) ∙ ap (λ (n : ℕ). bit_xor n d) (xor_comm b c) ∙ xor_assoc c b d)
    ∙ sym (xor_assoc a c (bit_xor b d))

pub mask_xor : (a b : ℕ) → mask_of (bit_xor a b) ≡ bit_xor (mask_of a) (mask_of b)
mask_xor a b =
    ap (λ (half : ℕ). bit_xor (bit_xor a b) half % 2 ^ 26) (xor_shr a b 1)
    ∙ ap (λ (n : ℕ). n % 2 ^ 26) (swap_inner a b (a / 2) (b / 2))
    ∙ xor_mod (bit_xor a (a / 2)) (bit_xor b (b / 2)) 26

rem_zero : IsLinear → rem 0 ≡ 0
rem_zero linear = linear 0 0 ∙ xor_self (rem 0)

-- with symbol n flipped too
joined : IsLinear → (n rest : ℕ) → rest < 2 ^ n → bit_xor (rem (mask_of rest)) (effect n) ≡ rem (mask_of (1 * 2 ^ n + rest))
joined linear n rest small =
    let power : 1 * 2 ^ n ≡ 2 ^ n = omega arith in
    xor_comm (rem (mask_of rest)) (effect n)
    ∙ sym (linear (mask_of (2 ^ n)) (mask_of rest))
    ∙ ap rem (sym (mask_xor (2 ^ n) rest) ∙ ap (λ (p : ℕ). mask_of (bit_xor p rest)) (sym power) ∙ ap mask_of (xor_shifted 1 n rest small))

pub sum_is : IsLinear → (n flips : ℕ) → flips < 2 ^ n → sum_of effect n flips ≡ rem (mask_of flips)
unfolding sum_of
sum_is linear zero flips small = grind (arith, common_steps, rem_zero)
sum_is linear (suc n) flips small = elim (split effect effect n flips small) [
  | inl low ↦ low.sum ∙ sum_is linear n flips low.small
  | inr high ↦ high.1.sum ∙ ap (λ (s : ℕ). bit_xor s (effect n)) (sum_is linear n high.0 high.1.small)
      ∙ joined linear n high.0 high.1.small ∙ ap (λ (f : ℕ). rem (mask_of f)) (omega (arith, high.1.whole))
]

pub weight_is : (confidences : List ℕ) (flips : ℕ) → weight confidences flips ≡ weigh (confidence confidences) 27 flips
unfolding weigh
weight_is confidences flips = omega arith

-- flips that lead to s have the sum s
leads_reach : IsLinear → (s flips : ℕ) → Leads s flips → Reach effect 27 s flips
leads_reach linear s flips h = record { small = h.symbols; sum = sum_is linear 27 flips h.symbols ∙ h.sum }

reach_leads : IsLinear → (s flips : ℕ) → Reach effect 27 s flips → Leads s flips
reach_leads linear s flips h = record { symbols = h.small; sum = sym (sum_is linear 27 flips h.small) ∙ h.sum }

pub are_lightest : IsLinear → (confidences : List ℕ) (s : ℕ) → AreLightest confidences s (least effect (confidence confidences) 27 s)
    (lightest effect (confidence confidences) 27 s) (second effect (confidence confidences) 27 s)
are_lightest linear confidences s =
    let c : ℕ → ℕ = confidence confidences in
    record {
      found = λ near.
          let h : Weighs effect c 27 s (lightest effect c 27 s) (least effect c 27 s) = lightest_reached effect c 27 s near in
          (reach_leads linear s (lightest effect c 27 s) h.reach, weight_is confidences (lightest effect c 27 s) ∙ h.weight);
      none_lighter = λ any leads.
          omega (arith, weight_is confidences any, least_below effect c 27 s any (leads_reach linear s any leads));
      others_weigh = λ any leads apart.
          omega (arith, weight_is confidences any, others_weigh effect c 27 s any (leads_reach linear s any leads) apart);
      other = λ near.
          let h = second_reached effect c 27 s near in
          (h.0, reach_leads linear s h.0 h.1.reach, h.2, weight_is confidences h.0 ∙ h.1.weight);
    }
