-- Each bit of a remainder as a sum of bits of its window, and each plane from the one above it.
use Rattle.rds_stream.proofs.Names.{common_steps, ◌≡◌, ℕ, zero, suc, ◌+◌, ◌-◌, ◌*◌, ◌/◌, ◌%◌, ◌^◌, ◌<◌, ◌≤◌, refl, sym, ap, ◌∙◌, arith, bit_xor, List, [], ◌∷◌, map, get_or, ap₂, bit_at, range_with_len, pow-suc, mod-eq_of_lt, pow_pos, mod_below, div_below, shr_split, bit_at_xor, bit_at-zero, bit_at_cat_low, get_or-map-range_with_len, rem, IsWindowAt, lane, xor_shifted, IsLinear, each_below}
use Rattle.rds_stream.proofs.BitOrder.{shr_bit}

-- the remainder of each power of x by the generator
unfoldable pub powers : List ℕ
powers = 0x001 ∷ 0x002 ∷ 0x004 ∷ 0x008 ∷ 0x010 ∷ 0x020 ∷ 0x040 ∷ 0x080 ∷ 0x100 ∷ 0x200 ∷ 0x1B9 ∷ 0x372 ∷ 0x35D ∷ 0x303 ∷ 0x3BF ∷ 0x2C7 ∷ 0x037 ∷ 0x06E ∷ 0x0DC ∷ 0x1B8 ∷ 0x370 ∷ 0x359 ∷ 0x30B ∷ 0x3AF ∷ 0x2E7 ∷ 0x077 ∷ []

powers_are : powers ≡ map (λ t. rem (2 ^ t)) (range_with_len 0 26)
unfolding powers rem
powers_are = refl

unfoldable pub power : ℕ → ℕ
power t = get_or powers t 0

power_is : (t : ℕ) → t < 26 → power t ≡ rem (2 ^ t)
unfolding power
power_is t within = ap (λ (l : List ℕ). get_or l t 0) powers_are ∙ get_or-map-range_with_len (λ j. rem (2 ^ j)) 0 26 t t 0 within (omega arith)

rem-zero : rem 0 ≡ 0
unfolding rem
rem-zero = refl

-- the sum of the first n numbers of f whose powers have bit s
unfoldable pub dot : ℕ → ℕ → (ℕ → ℕ) → ℕ
dot zero s f = 0
dot (suc n) s f = dot n s f + f n * bit_at (power n) s

dot_same : (n s : ℕ) (f g : ℕ → ℕ) → ((t : ℕ) → t < n → f t ≡ g t) → dot n s f ≡ dot n s g
unfolding dot
dot_same zero s f g same = refl
dot_same (suc n) s f g same = ap₂ (λ x y. x + y * bit_at (power n) s) (dot_same n s f g (λ t l. same t (omega arith))) (same n (omega arith))

times_bit : (h p s : ℕ) → h < 2 → bit_at (h * p) s ≡ h * bit_at p s
times_bit zero p s l = let e : 0 * p ≡ 0 = omega arith in omega (arith, ap (λ x. bit_at x s) e, bit_at-zero s)
times_bit (suc zero) p s l = let e : 1 * p ≡ p = omega arith in omega (arith, ap (λ x. bit_at x s) e)
times_bit (suc (suc h)) p s l = absurd (omega arith)

top_rem : (n h : ℕ) → n < 26 → h < 2 → rem (h * 2 ^ n) ≡ h * power n
top_rem n zero within l = grind (arith, common_steps, rem-zero)
top_rem n (suc zero) within l = grind (arith, common_steps, power_is)
top_rem n (suc (suc h)) within l = absurd (omega arith)

-- a bit of a remainder is a sum of bits
rem_bit : IsLinear → (n w s : ℕ) → n ≤ 26 → w < 2 ^ n → bit_at (rem w) s ≡ dot n s (bit_at w) % 2
unfolding dot
rem_bit linear zero w s within small = grind (arith, common_steps, rem-zero, bit_at-zero)
rem_bit linear (suc n) w s within small =
    let low = w % 2 ^ n in
    let top = w / 2 ^ n in
    let below : low < 2 ^ n = mod_below w (2 ^ n) (pow_pos n) in
    let bit : top < 2 = div_below w (2 ^ n) 2 (pow_pos n) (omega (arith, pow-suc 2 n)) in
    let parts : bit_xor (top * 2 ^ n) low ≡ w = xor_shifted top n low below ∙ shr_split w n in
    let sum : rem w ≡ bit_xor (top * power n) (rem low) =
    ap rem (sym parts) ∙ linear (top * 2 ^ n) low ∙ ap (λ x. bit_xor x (rem low)) (top_rem n top (omega arith) bit) in
    let same : dot n s (bit_at low) ≡ dot n s (bit_at w) =
    dot_same n s (bit_at low) (bit_at w) (λ t l. sym (bit_at_cat_low top n low t l) ∙ ap (λ x. bit_at x t) (shr_split w n)) in
    let head : bit_at w n ≡ top = mod-eq_of_lt bit in
    omega (
      arith,
      ap (λ x. x * bit_at (power n) s) head,
      ap (λ x. bit_at x s) sum,
      bit_at_xor (top * power n) (rem low) s,
      times_bit top (power n) s bit,
      rem_bit linear n low s (omega arith) below,
      same,
    )

-- bit s of the remainder of a block, as the sum of some of its bits
sums : (f : ℕ → ℕ) → (dot 26 0 f ≡ f 0 + f 10 + f 12 + f 13 + f 14 + f 15 + f 16 + f 21 + f 22 + f 23 + f 24 + f 25)
    × (dot 26 1 f ≡ f 1 + f 11 + f 13 + f 14 + f 15 + f 16 + f 17 + f 22 + f 23 + f 24 + f 25)
    × (dot 26 2 f ≡ f 2 + f 12 + f 14 + f 15 + f 16 + f 17 + f 18 + f 23 + f 24 + f 25)
    × (dot 26 3 f ≡ f 3 + f 10 + f 12 + f 14 + f 17 + f 18 + f 19 + f 21 + f 22 + f 23)
    × (dot 26 4 f ≡ f 4 + f 10 + f 11 + f 12 + f 14 + f 16 + f 18 + f 19 + f 20 + f 21 + f 25)
    × (dot 26 5 f ≡ f 5 + f 10 + f 11 + f 14 + f 16 + f 17 + f 19 + f 20 + f 23 + f 24 + f 25)
    × (dot 26 6 f ≡ f 6 + f 11 + f 12 + f 15 + f 17 + f 18 + f 20 + f 21 + f 24 + f 25)
    × (dot 26 7 f ≡ f 7 + f 10 + f 14 + f 15 + f 18 + f 19 + f 23 + f 24)
    × (dot 26 8 f ≡ f 8 + f 10 + f 11 + f 12 + f 13 + f 14 + f 19 + f 20 + f 21 + f 22 + f 23)
    × (dot 26 9 f ≡ f 9 + f 11 + f 12 + f 13 + f 14 + f 15 + f 20 + f 21 + f 22 + f 23 + f 24)
unfolding dot power powers
sums f = (omega arith, omega arith, omega arith, omega arith, omega arith, omega arith, omega arith, omega arith, omega arith, omega arith)

-- bit e of p is bit s of the remainder of the window that begins at bit e of v
abbrev pub Sums : ℕ → ℕ → ℕ → Type 0
Sums v s p = (e : ℕ) → bit_at p e ≡ dot 26 s (λ t. bit_at v (e + (25 - t))) % 2

shr_at : (v k e t : ℕ) → bit_at (v / 2 ^ k) (e + t) ≡ bit_at v (e + (t + k))
shr_at v k e t = let same : k + (e + t) ≡ e + (t + k) = omega arith in shr_bit v k (e + t) ∙ ap (bit_at v) same

-- the next window's sum
next : (v s p e : ℕ) → Sums v s p → bit_at (p / 2) e ≡ dot 26 s (λ t. bit_at v (e + (26 - t))) % 2
next v s p e sums =
    let one : 1 + e ≡ e + 1 = omega arith in
    shr_bit p 1 e ∙ ap (bit_at p) one ∙ sums (e + 1)
    ∙ ap (λ x. x % 2) (dot_same 26 s _ _ (λ t l. let same : e + 1 + (25 - t) ≡ e + (26 - t) = omega arith in ap (bit_at v) same))

first : (v e : ℕ) → bit_at v (e + (25 - 25)) ≡ bit_at v e
first v e = let same : e + (25 - 25) ≡ e = omega arith in ap (bit_at v) same

-- bit s of the remainder of a window, from bit s + 1 of the next window's
pub plane_8 : (v q : ℕ) → Sums v 9 q → Sums v 8 (q / 2)
plane_8 v q nine e = omega (arith, next v 9 q e nine, (sums (λ t. bit_at v (e + (25 - t)))).8, (sums (λ t. bit_at v (e + (26 - t)))).9)

pub plane_7 : (v q p : ℕ) → Sums v 9 q → Sums v 8 p → Sums v 7 (bit_xor (p / 2) q)
plane_7 v q p nine above e = omega (arith, bit_at_xor (p / 2) q e, next v 8 p e above, (sums (λ t. bit_at v (e + (25 - t)))).7, (sums (λ t. bit_at v (e + (26 - t)))).8, (sums (λ t. bit_at v (e + (25 - t)))).9, nine e)

pub plane_6 : (v q p : ℕ) → Sums v 9 q → Sums v 7 p → Sums v 6 (bit_xor (p / 2) (bit_xor q v))
plane_6 v q p nine above e = omega (arith, bit_at_xor (p / 2) (bit_xor q v) e, bit_at_xor q v e, next v 7 p e above, (sums (λ t. bit_at v (e + (25 - t)))).6, (sums (λ t. bit_at v (e + (26 - t)))).7, (sums (λ t. bit_at v (e + (25 - t)))).9, nine e, first v e)

pub plane_5 : (v q p : ℕ) → Sums v 9 q → Sums v 6 p → Sums v 5 (bit_xor (p / 2) v)
plane_5 v q p nine above e = omega (arith, bit_at_xor (p / 2) v e, next v 6 p e above, (sums (λ t. bit_at v (e + (25 - t)))).5, (sums (λ t. bit_at v (e + (26 - t)))).6, first v e)

pub plane_4 : (v q p : ℕ) → Sums v 9 q → Sums v 5 p → Sums v 4 (bit_xor (p / 2) (bit_xor q v))
plane_4 v q p nine above e = omega (arith, bit_at_xor (p / 2) (bit_xor q v) e, bit_at_xor q v e, next v 5 p e above, (sums (λ t. bit_at v (e + (25 - t)))).4, (sums (λ t. bit_at v (e + (26 - t)))).5, (sums (λ t. bit_at v (e + (25 - t)))).9, nine e, first v e)

pub plane_3 : (v q p : ℕ) → Sums v 9 q → Sums v 4 p → Sums v 3 (bit_xor (p / 2) q)
plane_3 v q p nine above e = omega (arith, bit_at_xor (p / 2) q e, next v 4 p e above, (sums (λ t. bit_at v (e + (25 - t)))).3, (sums (λ t. bit_at v (e + (26 - t)))).4, (sums (λ t. bit_at v (e + (25 - t)))).9, nine e)

pub plane_2 : (v q p : ℕ) → Sums v 9 q → Sums v 3 p → Sums v 2 (bit_xor (p / 2) (bit_xor q v))
plane_2 v q p nine above e = omega (arith, bit_at_xor (p / 2) (bit_xor q v) e, bit_at_xor q v e, next v 3 p e above, (sums (λ t. bit_at v (e + (25 - t)))).2, (sums (λ t. bit_at v (e + (26 - t)))).3, (sums (λ t. bit_at v (e + (25 - t)))).9, nine e, first v e)

pub plane_1 : (v q p : ℕ) → Sums v 9 q → Sums v 2 p → Sums v 1 (bit_xor (p / 2) v)
plane_1 v q p nine above e = omega (arith, bit_at_xor (p / 2) v e, next v 2 p e above, (sums (λ t. bit_at v (e + (25 - t)))).1, (sums (λ t. bit_at v (e + (26 - t)))).2, first v e)

pub plane_0 : (v q p : ℕ) → Sums v 9 q → Sums v 1 p → Sums v 0 (bit_xor (p / 2) v)
plane_0 v q p nine above e = omega (arith, bit_at_xor (p / 2) v e, next v 1 p e above, (sums (λ t. bit_at v (e + (25 - t)))).0, (sums (λ t. bit_at v (e + (26 - t)))).1, first v e)

-- the numbers on the way to plane 9
abbrev pairs : ℕ → ℕ
pairs v = bit_xor v (v / 2)

abbrev fours : ℕ → ℕ
fours v = bit_xor (pairs v) (pairs v / 2 ^ 2)

abbrev fives : ℕ → ℕ
fives v = bit_xor (fours v) (v / 2 ^ 4)

abbrev tens : ℕ → ℕ
tens v = bit_xor (fives v) (fives v / 2 ^ 9)

pairs_at : (v e t : ℕ) → bit_at (pairs v) (e + t) ≡ (bit_at v (e + t) + bit_at v (e + (t + 1))) % 2
pairs_at v e t = omega (arith, bit_at_xor v (v / 2) (e + t), shr_at v 1 e t)

fives_at : (v e t t2 t3 t4 : ℕ) → t2 ≡ t + 2 → t3 ≡ t2 + 1 → t4 ≡ t + 4
    → bit_at (fives v) (e + t) ≡ (bit_at v (e + t) + bit_at v (e + (t + 1)) + bit_at v (e + t2) + bit_at v (e + t3) + bit_at v (e + t4)) % 2
fives_at v e t t2 t3 t4 a b c =
    let f2 : bit_at (pairs v / 2 ^ 2) (e + t) ≡ bit_at (pairs v) (e + t2) = shr_at (pairs v) 2 e t ∙ ap (λ x. bit_at (pairs v) (e + x)) (sym a) in
    let f3 : bit_at (pairs v) (e + t2) ≡ (bit_at v (e + t2) + bit_at v (e + t3)) % 2 = pairs_at v e t2 ∙ ap (λ x. (bit_at v (e + t2) + bit_at v (e + x)) % 2) (sym b) in
    let f4 : bit_at (v / 2 ^ 4) (e + t) ≡ bit_at v (e + t4) = shr_at v 4 e t ∙ ap (λ x. bit_at v (e + x)) (sym c) in
    omega (arith, bit_at_xor (fours v) (v / 2 ^ 4) (e + t), bit_at_xor (pairs v) (pairs v / 2 ^ 2) (e + t), pairs_at v e t)

pub plane_9 : (v : ℕ) → Sums v 9 (bit_xor (tens v) (v / 2 ^ 15) / 2)
plane_9 v e =
    let one : 1 + e ≡ e + 1 = omega arith in
    omega (
      arith,
      shr_bit (bit_xor (tens v) (v / 2 ^ 15)) 1 e ∙ ap (bit_at (bit_xor (tens v) (v / 2 ^ 15))) one,
      bit_at_xor (tens v) (v / 2 ^ 15) (e + 1),
      shr_at v 15 e 1,
      bit_at_xor (fives v) (fives v / 2 ^ 9) (e + 1),
      shr_at (fives v) 9 e 1,
      fives_at v e 1 3 4 5 refl refl refl,
      fives_at v e 10 12 13 14 refl refl refl,
      (sums (λ t. bit_at v (e + (25 - t)))).9,
    )

-- a plane has the bit of the remainder
pub shows : IsLinear → (v s p k block : ℕ) → Sums v s p → IsWindowAt v k block → bit_at p k ≡ bit_at (rem block) s
shows linear v s p k block sums window =
    sums k
    ∙ sym (rem_bit linear 26 block s (omega arith) window.block ∙ ap (λ x. x % 2) (dot_same 26 s (bit_at block) (λ t. bit_at v (k + (25 - t))) window.bits))

-- a fact about each number below ten
ten : (P : ℕ → Type 0) → P 0 → P 1 → P 2 → P 3 → P 4 → P 5 → P 6 → P 7 → P 8 → P 9 → (r : ℕ) → r < 10 → P r
ten P x0 x1 x2 x3 x4 x5 x6 x7 x8 x9 = each_below P 10 (x0, (x1, (x2, (x3, (x4, (x5, (x6, (x7, (x8, (x9, tt))))))))))

-- the bits of a lane of ten vectors in a row
pub in_lane : (j k block : ℕ) (a b c d f g h i m n : List ℕ) → bit_at (get_or a j 0) k ≡ bit_at (rem block) 0 → bit_at (get_or b j 0) k ≡ bit_at (rem block) 1
    → bit_at (get_or c j 0) k ≡ bit_at (rem block) 2 → bit_at (get_or d j 0) k ≡ bit_at (rem block) 3 → bit_at (get_or f j 0) k ≡ bit_at (rem block) 4
    → bit_at (get_or g j 0) k ≡ bit_at (rem block) 5 → bit_at (get_or h j 0) k ≡ bit_at (rem block) 6 → bit_at (get_or i j 0) k ≡ bit_at (rem block) 7
    → bit_at (get_or m j 0) k ≡ bit_at (rem block) 8 → bit_at (get_or n j 0) k ≡ bit_at (rem block) 9
    → (r : ℕ) → r < 10 → bit_at (lane (a ∷ b ∷ c ∷ d ∷ f ∷ g ∷ h ∷ i ∷ m ∷ n ∷ []) r j) k ≡ bit_at (rem block) r
in_lane j k block a b c d f g h i m n = ten (λ r. bit_at (lane (a ∷ b ∷ c ∷ d ∷ f ∷ g ∷ h ∷ i ∷ m ∷ n ∷ []) r j) k ≡ bit_at (rem block) r)

-- the bits of ten words in a row
pub ten_words : (k remainder w0 w1 w2 w3 w4 w5 w6 w7 w8 w9 : ℕ) → bit_at w0 k ≡ bit_at remainder 0 → bit_at w1 k ≡ bit_at remainder 1 → bit_at w2 k ≡ bit_at remainder 2 → bit_at w3 k ≡ bit_at remainder 3 → bit_at w4 k ≡ bit_at remainder 4 → bit_at w5 k ≡ bit_at remainder 5 → bit_at w6 k ≡ bit_at remainder 6 → bit_at w7 k ≡ bit_at remainder 7 → bit_at w8 k ≡ bit_at remainder 8 → bit_at w9 k ≡ bit_at remainder 9
    → (r : ℕ) → r < 10 → bit_at (get_or (w0 ∷ w1 ∷ w2 ∷ w3 ∷ w4 ∷ w5 ∷ w6 ∷ w7 ∷ w8 ∷ w9 ∷ []) r 0) k ≡ bit_at remainder r
ten_words k remainder w0 w1 w2 w3 w4 w5 w6 w7 w8 w9 = ten (λ r. bit_at (get_or (w0 ∷ w1 ∷ w2 ∷ w3 ∷ w4 ∷ w5 ∷ w6 ∷ w7 ∷ w8 ∷ w9 ∷ []) r 0) k ≡ bit_at remainder r)
