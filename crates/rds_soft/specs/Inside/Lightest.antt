-- The lightest flips by a sum of effects, symbol by symbol from the last: as the search computes them. `e` and `c` give the
-- effect and the confidence of a symbol by its place from the last, which is also the place of its bit in a word of flips.
use Rattle.std.specs.Prelude.{◌≡◌, ◌≢◌, ℕ, zero, suc, ◌+◌, ◌-◌, ◌*◌, ◌^◌, ◌<◌, ◌≤◌, List, slice_index, Bool, true, false, bit_xor, min, nat_lt}
use Rattle.std.specs.Int.{bit_at}
use Rattle.rds_code.specs.Remainder.{rem}
use Rattle.rds_soft.specs.Nearest.{mask_of, weight}

-- the effect of a flip on the remainder of the window
abbrev pub effect : ℕ → ℕ
effect n = rem (mask_of (2 ^ n))

-- the confidence of a symbol by its place from the last
abbrev pub confidence : List ℕ → ℕ → ℕ
confidence confidences n = slice_index confidences (26 - n)

-- the sum of the effects of flips of the last n symbols
unfoldable pub sum_of : (ℕ → ℕ) → ℕ → ℕ → ℕ
sum_of e zero flips = 0
sum_of e (suc n) flips = bit_xor (bit_at flips n * e n) (sum_of e n flips)

-- the weight of flips of the last n symbols
unfoldable pub weigh : (ℕ → ℕ) → ℕ → ℕ → ℕ
weigh c zero flips = 0
weigh c (suc n) flips = bit_at flips n * c n + weigh c n flips

-- no symbols have the sum 0; any other is far
abbrev pub of_none : ℕ → ℕ
of_none zero = 0
of_none (suc s) = 255

-- the least weight of flips of the last n symbols whose sum is s; 255 if there are none, or if it is more
unfoldable pub least : (ℕ → ℕ) → (ℕ → ℕ) → ℕ → ℕ → ℕ
least e c zero s = of_none s
least e c (suc n) s = min (least e c n s) (least e c n (bit_xor s (e n)) + c n)

-- whether it is lighter to flip symbol n
abbrev pub is_flipped : (ℕ → ℕ) → (ℕ → ℕ) → ℕ → ℕ → Bool
is_flipped e c n s = nat_lt (least e c n (bit_xor s (e n)) + c n) (least e c n s)

-- the lightest flips whose sum is s, from symbol n - 1 back
unfoldable pub lightest : (ℕ → ℕ) → (ℕ → ℕ) → ℕ → ℕ → ℕ
lightest e c zero s = 0
lightest e c (suc n) s = elim (is_flipped e c n s) [
  | false ↦ lightest e c n s
  | true ↦ 2 ^ n + lightest e c n (bit_xor s (e n))
]

-- the least weight of others, which differ from the lightest first at one of these symbols
unfoldable pub second : (ℕ → ℕ) → (ℕ → ℕ) → ℕ → ℕ → ℕ
second e c zero s = 255
second e c (suc n) s = elim (is_flipped e c n s) [
  | false ↦ min (least e c n (bit_xor s (e n)) + c n) (second e c n s)
  | true ↦ min (least e c n s) (second e c n (bit_xor s (e n)) + c n)
]

-- flips of 27 symbols whose effects have the sum s
pub record Leads (s flips : ℕ) : Type 0 where
  pub symbols : flips < 2 ^ 27
  pub sum : rem (mask_of flips) ≡ s

-- the lightest flips with the sum s and the least weight of any others, each known below 255
pub record AreLightest (confidences : List ℕ) (s least flips others : ℕ) : Type 0 where
  pub found : least < 255 → Leads s flips × (weight confidences flips ≡ least)
  pub none_lighter : (any : ℕ) → Leads s any → least ≤ weight confidences any
  pub others_weigh : (any : ℕ) → Leads s any → any ≢ flips → others ≤ weight confidences any
  pub other : others < 255 → (any : ℕ) × Leads s any × (any ≢ flips) × (weight confidences any ≡ others)
