-- The laws of the nearest block.
use Rattle.rds_soft.proofs.Names.{common_steps, ◌≡◌, ◌≢◌, ℕ, zero, suc, ◌+◌, ◌-◌, ◌*◌, ◌%◌, ◌^◌, ◌<◌, ◌≤◌, List, sym, ap, ◌∙◌, arith, bit_xor, ◌⊎◌, inl, inr, lit<, xor_assoc, xor_zero_l, xor_zero_r, cases_eq, xor_lt, bit_at-lt, bit_at_xor, Offset, Wanted, rem, word, mask_of, weight, Turns, NoneTurnsValid, HasOneNearest, SureSymbolsStay, CorrectsSent, confidence, weigh}
use Rattle.rds_soft.proofs.{LightestLemmas.undone, LightestLemmas.split, FlipLemmas.mask_xor, FlipLemmas.weight_is}

-- ---- valid windows

pub none_turns_valid : NoneTurnsValid
none_turns_valid w x wanted o confidences own allowed valid = grind (arith, common_steps, lit<, xor_zero_r)

-- ---- one nearest

word_one : (o p : Offset) → word o ≡ word p → p ≡ o
word_one o p same = grind (arith, common_steps)

pub has_one_nearest : HasOneNearest
has_one_nearest w x wanted confidences margin o p f g some h k = elim (cases_eq g f) [
  | inl same ↦
      (word_one o p (sym h.turns.due ∙ ap (λ (y : ℕ). rem (bit_xor w (mask_of y))) (sym same) ∙ k.turns.due), same)
  | inr apart ↦
      let one : weight confidences f + margin ≤ weight confidences g = h.alone p g k.turns apart in
      let other : weight confidences g + margin ≤ weight confidences f = k.alone o f h.turns (λ is. apart (sym is)) in
      absurd (omega (arith, some, one, other))
]

-- ---- sure symbols

heavy : (c : ℕ → ℕ) (n flips : ℕ) → ((k : ℕ) → k < n → 127 < c k) → flips < 2 ^ n → flips ≢ 0 → 127 < weigh c n flips
heavy c zero flips sure small some = absurd (some (omega (arith, small)))
heavy c (suc n) flips sure small some = elim (split c c n flips small) [
  | inl low ↦ omega (arith, low.weight, heavy c n flips (λ k less. sure k (omega (arith, less))) low.small some)
  | inr high ↦ omega (arith, high.1.weight, sure n (omega arith))
]

pub sure_symbols_stay : SureSymbolsStay
sure_symbols_stay w x wanted confidences margin o flips sure h = elim (cases_eq flips 0) [
  | inl none ↦ none
  | inr some ↦
      let more : 127 < weigh (confidence confidences) 27 flips =
      heavy (confidence confidences) 27 flips (λ k less. sure (26 - k) (omega (arith, less))) h.turns.symbols some in
      absurd (omega (arith, more, weight_is confidences flips, h.near))
]

-- ---- a block that was sent

bit_cases : (t : ℕ) → t < 2 → (t ≡ 0) ⊎ (t ≡ 1)
bit_cases t h = elim (cases_eq t 0) [ inl e ↦ inl e | inr n ↦ inr (omega (arith, h, n)) ]

-- a symbol in both is in neither
one_symbol : (a b c : ℕ) → a < 2 → b < 2 → (a + b) % 2 * c ≤ a * c + b * c
one_symbol a b c h k = grind (arith, common_steps, bit_cases)

-- flips together weigh at most as much as both
together : (c : ℕ → ℕ) (n f g : ℕ) → weigh c n (bit_xor f g) ≤ weigh c n f + weigh c n g
unfolding weigh
together c zero f g = omega arith
together c (suc n) f g = grind (arith, common_steps, bit_at_xor, one_symbol, bit_at-lt, together c n f g)

weight_together : (confidences : List ℕ) (f g : ℕ) → weight confidences (bit_xor f g) ≤ weight confidences f + weight confidences g
weight_together confidences f g =
    let least = together (confidence confidences) 27 f g in
    let both = weight_is confidences (bit_xor f g) in
    omega (arith, both, least, weight_is confidences f, weight_is confidences g)

-- flips that turn the received window turn the sent one, together with the wrong symbols
both_turn : (b x : ℕ) (wanted : Wanted) (p : Offset) (wrong any : ℕ) → wrong < 2 ^ 27
    → Turns (bit_xor b (mask_of wrong)) x wanted p any → Turns b x wanted p (bit_xor wrong any)
both_turn b x wanted p wrong any small h = record {
  symbols = xor_lt 27 wrong any small h.symbols;
  own = h.own;
  allowed = h.allowed;
  due = ap (λ (m : ℕ). rem (bit_xor b m)) (mask_xor wrong any) ∙ ap rem (sym (xor_assoc b (mask_of wrong) (mask_of any))) ∙ h.due;
}

pub corrects_sent : CorrectsSent
corrects_sent b x wanted confidences margin o wrong lightest sent small near far few =
    let back : bit_xor (bit_xor b (mask_of wrong)) (mask_of wrong) ≡ b = undone b (mask_of wrong) in (
      record {
        turns = record {
          symbols = small;
          own = sent.own;
          allowed = sent.allowed;
          due = ap rem back ∙ ap rem (sym (xor_zero_r b)) ∙ sent.due;
        };
        near = near;
        alone = λ p any h apart.
            let differ : bit_xor wrong any ≢ 0 = λ none.
            apart (sym (xor_zero_l any) ∙ ap (λ (y : ℕ). bit_xor y any) (sym none) ∙ undone wrong any) in
            let other : lightest ≤ weight confidences (bit_xor wrong any) =
            far p (bit_xor wrong any) (both_turn b x wanted p wrong any small h) differ in
            omega (arith, few, other, weight_together confidences wrong any);
      },
      back,
    )
