-- Single bits of words whose halves change places, and of bytes in a row.
use Rattle.rds_stream.proofs.Names.{common_steps, ◌≡◌, ℕ, zero, suc, ◌+◌, ◌-◌, ◌*◌, ◌/◌, ◌%◌, ◌^◌, ◌<◌, ◌≤◌, refl, sym, ap, ◌∙◌, arith, bit_and, bit_or, List, [], ◌∷◌, map, get_or, bit_at, range_with_len, cases_lt, pow_pos, shr-shr, shr_split, bit_at_and, bit_at_or, bit_at_ones, bit_at_ones_above, bit_at-lt, bit_at-zero, bit_at_cat_low, bit_at_cat_high, get_or-map-range_with_len, each_below}

-- a bit of a word that is shifted down, and up
pub shr_bit : (n s k : ℕ) → bit_at (n / 2 ^ s) k ≡ bit_at n (s + k)
shr_bit n s k = ap (λ x. x % 2) (shr-shr n s k)

shl_word : (n s k : ℕ) → k < 64 → bit_at (n * 2 ^ s % 2 ^ 64) k ≡ bit_at (n * 2 ^ s + 0) k
shl_word n s k within =
    let m = n * 2 ^ s in
    let plain : m ≡ m + 0 = omega arith in
    sym (bit_at_cat_low (m / 2 ^ 64) 64 (m % 2 ^ 64) k within) ∙ ap (λ y. bit_at y k) (shr_split m 64 ∙ plain)

shl_bit : (n s k : ℕ) → k < 64 → s ≤ k → bit_at (n * 2 ^ s % 2 ^ 64) k ≡ bit_at n (k - s)
shl_bit n s k within above = shl_word n s k within ∙ bit_at_cat_high n s 0 k (pow_pos s) above

shl_none : (n s k : ℕ) → k < 64 → k < s → bit_at (n * 2 ^ s % 2 ^ 64) k ≡ 0
shl_none n s k within below = shl_word n s k within ∙ bit_at_cat_low n s 0 k below ∙ bit_at-zero k

-- the bits at the ones of the mask come from s places above, the others from s places below
pub from_above : (n mask s k : ℕ) → k < 64 → bit_at mask k ≡ 1 → (s ≤ k → bit_at mask (k - s) ≡ 0)
    → bit_at (bit_or (bit_and (n / 2 ^ s) mask) (bit_and n mask * 2 ^ s % 2 ^ 64)) k ≡ bit_at n (k + s)
from_above n mask s k within here other = grind (arith, common_steps, shl_none, shl_bit, bit_at_and, bit_at_or, shr_bit, bit_at-lt)

pub from_below : (n mask s k : ℕ) → k < 64 → s ≤ k → bit_at mask k ≡ 0 → bit_at mask (k - s) ≡ 1
    → bit_at (bit_or (bit_and (n / 2 ^ s) mask) (bit_and n mask * 2 ^ s % 2 ^ 64)) k ≡ bit_at n (k - s)
from_below n mask s k within above here there = grind (arith, common_steps, bit_at_or, bit_at_and, shl_bit, bit_at-lt)

-- neighbours of s bits that change places, where b tells which of the two holds bit k
pub swapped : (word mask s b k to : ℕ) → k < 64 → b < 2 → bit_at mask k ≡ 1 - b → (s ≤ k → bit_at mask (k - s) ≡ b) → (b ≡ 0 → to ≡ k + s) → (b ≡ 1 → (s ≤ k) × (to ≡ k - s))
    → bit_at (bit_or (bit_and (word / 2 ^ s) mask) (bit_and word mask * 2 ^ s % 2 ^ 64)) k ≡ bit_at word to
swapped word mask s b k to within small here other above below = grind (arith, common_steps, cases_lt, from_above, from_below)

-- a bit of a mask, from the list of its bits
mask_bit : (mask : ℕ) (f : ℕ → ℕ) (k : ℕ) → map (bit_at mask) (range_with_len 0 64) ≡ map f (range_with_len 0 64) → k < 64 → bit_at mask k ≡ f k
mask_bit mask f k same within =
    sym (get_or-map-range_with_len (bit_at mask) 0 64 k k 0 within (omega arith)) ∙ ap (λ (l : List ℕ). get_or l k 0) same
    ∙ get_or-map-range_with_len f 0 64 k k 0 within (omega arith)

pub even_places : (k : ℕ) → k < 64 → bit_at 0x5555555555555555 k ≡ 1 - k % 2
even_places k within = mask_bit 0x5555555555555555 (λ j. 1 - j % 2) k refl within

pub even_pairs : (k : ℕ) → k < 64 → bit_at 0x3333333333333333 k ≡ 1 - k / 2 % 2
even_pairs k within = mask_bit 0x3333333333333333 (λ j. 1 - j / 2 % 2) k refl within

pub even_fours : (k : ℕ) → k < 64 → bit_at 0x0F0F0F0F0F0F0F0F k ≡ 1 - k / 4 % 2
even_fours k within = mask_bit 0x0F0F0F0F0F0F0F0F (λ j. 1 - j / 4 % 2) k refl within

-- the number of the n bytes of f from j on, the first one lowest
unfoldable pub bytes_up : (ℕ → ℕ) → ℕ → ℕ → ℕ
bytes_up f zero j = 0
bytes_up f (suc n) j = bytes_up f n (j + 1) * 2 ^ 8 + f j

pub byte_bit : (f : ℕ → ℕ) (n j q r : ℕ) → ((i : ℕ) → f i < 2 ^ 8) → q < n → r < 8 → bit_at (bytes_up f n j) (8 * q + r) ≡ bit_at (f (j + q)) r
unfolding bytes_up
byte_bit f zero j q r small within bit = absurd (omega arith)
byte_bit f (suc n) j zero r small within bit =
    let place : 8 * 0 + r ≡ r = omega arith in
    let byte : j ≡ j + 0 = omega arith in
    ap (bit_at (bytes_up f n (j + 1) * 2 ^ 8 + f j)) place ∙ bit_at_cat_low (bytes_up f n (j + 1)) 8 (f j) r bit ∙ ap (λ i. bit_at (f i) r) byte
byte_bit f (suc n) j (suc q) r small within bit =
    let place : 8 * suc q + r - 8 ≡ 8 * q + r = omega arith in
    let byte : j + 1 + q ≡ j + suc q = omega arith in
    bit_at_cat_high (bytes_up f n (j + 1)) 8 (f j) (8 * suc q + r) (small j) (omega arith)
    ∙ ap (bit_at (bytes_up f n (j + 1))) place ∙ byte_bit f n (j + 1) q r small (omega arith) bit ∙ ap (λ i. bit_at (f i) r) byte

-- eight bytes
pub eight_bytes : (f : ℕ → ℕ) → f 0 + f 1 * 2 ^ 8 + f 2 * 2 ^ 16 + f 3 * 2 ^ 24 + f 4 * 2 ^ 32 + f 5 * 2 ^ 40 + f 6 * 2 ^ 48 + f 7 * 2 ^ 56 ≡ bytes_up f 8 0
unfolding bytes_up
eight_bytes f = omega arith

-- the elements of eight neighbours, and of four
pub eight_neighbours : (bytes : List ℕ) (a i : ℕ) → i < 8 →
    get_or (get_or bytes a 0 ∷ get_or bytes (a + 1) 0 ∷ get_or bytes (a + 2) 0 ∷ get_or bytes (a + 3) 0 ∷ get_or bytes (a + 4) 0 ∷ get_or bytes (a + 5) 0 ∷ get_or bytes (a + 6) 0 ∷ get_or bytes (a + 7) 0 ∷ []) i 0
    ≡ get_or bytes (a + i) 0
eight_neighbours bytes a =
    let same : a ≡ a + 0 = omega arith in
    let neighbours : List ℕ = get_or bytes a 0 ∷ get_or bytes (a + 1) 0 ∷ get_or bytes (a + 2) 0 ∷ get_or bytes (a + 3) 0 ∷ get_or bytes (a + 4) 0 ∷ get_or bytes (a + 5) 0 ∷ get_or bytes (a + 6) 0 ∷ get_or bytes (a + 7) 0 ∷ [] in
    each_below (λ i. get_or neighbours i 0 ≡ get_or bytes (a + i) 0) 8 (ap (λ j. get_or bytes j 0) same, (refl, (refl, (refl, (refl, (refl, (refl, (refl, tt))))))))

-- the lowest 32 bits of two words in a row
pub joined_low : (low high k : ℕ) → k < 32 → bit_at (bit_or (bit_and low 4294967295) (high * 4294967296 % 18446744073709551616)) k ≡ bit_at low k
joined_low low high k within =
    let none : bit_at (high * 2 ^ 32 % 2 ^ 64) k ≡ 0 = shl_word high 32 k (omega arith) ∙ bit_at_cat_low high 32 0 k within ∙ bit_at-zero k in
    omega (
      arith,
      bit_at_or (bit_and low 4294967295) (high * 4294967296 % 18446744073709551616) k,
      bit_at_and low 4294967295 k,
      bit_at_ones 32 k within,
      bit_at-lt low k,
      none,
    )

pub joined_high : (low high k : ℕ) → k < 32 → bit_at (bit_or (bit_and low 4294967295) (high * 4294967296 % 18446744073709551616)) (32 + k) ≡ bit_at high k
joined_high low high k within =
    let back : 32 + k - 32 ≡ k = omega arith in
    let there : bit_at (high * 2 ^ 32 % 2 ^ 64) (32 + k) ≡ bit_at high k = shl_bit high 32 (32 + k) (omega arith) (omega arith) ∙ ap (bit_at high) back in
    omega (
      arith,
      bit_at_or (bit_and low 4294967295) (high * 4294967296 % 18446744073709551616) (32 + k),
      bit_at_and low 4294967295 (32 + k),
      bit_at_ones_above 32 (32 + k) (omega arith),
      there,
    )
