-- Bits that are packed from the signs of bytes.
use Rattle.rds_code.proofs.Membership.{each_below}
use Rattle.rds_soft.proofs.SymbolLemmas.{sign_lt}
use Rattle.rds_stream.proofs.BitOrder.{shr_bit}
use Rattle.rds_soft.proofs.Names.{common_steps, ◌≡◌, ℕ, ◌+◌, ◌-◌, ◌*◌, ◌/◌, ◌%◌, ◌<◌, ◌++◌, ◌^◌, List, [], ◌∷◌, Bool, cond, ltb, length, drop, min, ap, refl, sym, ◌∙◌, arith, lit<, bit_xor, inl, inr, length-append, length-drop, pos, slice_index, if◌then◌else◌, bit_at, cast_signed, w8, cases_lt, le-ltb, lt-ltb, to_z_pos, min-eq_left, min-eq_right, get_or-map, get_or-drop, get_or_append_left, get_or-append-add, drop-drop, drop_all, packed_bit, xor_lt, bit_at_xor, bit_at_lowest, bit_at_cat_low, bit_at_cat_high, symbols_of, sign, hard_bit, sign_at}
use mathlib.Core.Path.{ap₂}
use Rattle.std.proofs.{Math.Nat.mod-lt, lemmas.Nat.pow_pos, lemmas.Nat.shr_split}
use Rattle.std.specs.Int.{to_be_bytes, w64}
use Rattle.std.proofs.Math.Facts.{to_z-neg}

-- ---- signs

-- the sum of two digits without a carry
sum_of_digits : (x y : ℕ) → x < 2 → y < 2 → (x + y) % 2 ≡ bit_xor x y
sum_of_digits x y x_small y_small =
    let low = bit_at_lowest (bit_xor x y) in
    let small : bit_xor x y < 2 = xor_lt 1 x y x_small y_small in
    omega (arith, low, small, bit_at_xor x y 0, bit_at_lowest x, bit_at_lowest y)

-- the bit between two bytes in a row
pub hard_bit_at : (bytes : List ℕ) (i : ℕ) → i + 1 < length bytes → hard_bit (symbols_of bytes) i ≡ bit_xor (sign_at bytes i) (sign_at bytes (i + 1))
hard_bit_at bytes i inside = grind (arith, common_steps, get_or-map)

-- a bit of the sum of two words is that between two bytes in a row, if theirs are the signs
pub bit_between : (bytes : List ℕ) (a b k i : ℕ) → i + 1 < length bytes → bit_at a k ≡ sign_at bytes i → bit_at b k ≡ sign_at bytes (i + 1)
    → bit_at (bit_xor a b) k ≡ hard_bit (symbols_of bytes) i
bit_between bytes a b k i inside this next = grind (arith, common_steps, bit_at_xor, sum_of_digits, sign_lt, slice_index, hard_bit_at)

-- the same bytes have the same bit between them
pub same_bit : (bytes others : List ℕ) (i j : ℕ) → i + 1 < length bytes → j + 1 < length others → slice_index bytes i ≡ slice_index others j
    → slice_index bytes (i + 1) ≡ slice_index others (j + 1) → hard_bit (symbols_of bytes) i ≡ hard_bit (symbols_of others) j
same_bit bytes others i j inside inside_others this next = grind (arith, common_steps, hard_bit_at, slice_index)

-- ---- lanes

abbrev pub last_first : List ℕ
last_first = 15 ∷ 14 ∷ 13 ∷ 12 ∷ 11 ∷ 10 ∷ 9 ∷ 8 ∷ 7 ∷ 6 ∷ 5 ∷ 4 ∷ 3 ∷ 2 ∷ 1 ∷ 0 ∷ []

sign_up : (n : ℕ) → 0 < n → sign (pos n) ≡ 1
sign_up n up = ap (λ (b : Bool). (if b then 1 else 0)) (lt-ltb 0 n up)

-- a byte is a positive number if it is below 127 once 1 is taken off
pub sign_by_test : (x : ℕ) → x < 256 → cond {A = ℕ} (ltb ((x + 255) % 256) 127) 1 0 ≡ sign (cast_signed w8 x)
sign_by_test x small = grind (arith, common_steps, ltb, lt-ltb, sign_up, to_z_pos, le-ltb, to_z-neg)

-- ---- the bits of words, first bit highest

-- the lowest m bits of a word
low_bit : (x m k : ℕ) → k < m → bit_at (x % 2 ^ m) k ≡ bit_at x k
low_bit x m k inside = sym (bit_at_cat_low (x / 2 ^ m) m (x % 2 ^ m) k inside) ∙ ap (λ (y : ℕ). bit_at y k) (shr_split x m)

-- two words of m bits each, joined
pub joined_bit : (P : ℕ → ℕ) (a b m from : ℕ) → b < 2 ^ m → ((k : ℕ) → k < m → bit_at a (m - 1 - k) ≡ P (from + k))
    → ((k : ℕ) → k < m → bit_at b (m - 1 - k) ≡ P (from + m + k))
    → (k : ℕ) → k < m + m → bit_at (a * 2 ^ m + b) (m + m - 1 - k) ≡ P (from + k)
joined_bit P a b m from small first second k inside = elim (cases_lt k m) [
  | inl high ↦
      bit_at_cat_high a m b (m + m - 1 - k) small (omega (arith, high))
      ∙ ap (bit_at a) (omega (arith, high)) ∙ first k high
  | inr low ↦
      bit_at_cat_low a m b (m + m - 1 - k) (omega (arith, low, inside))
      ∙ ap (bit_at b) (omega (arith, low, inside)) ∙ second (k - m) (omega (arith, low, inside)) ∙ ap P (omega (arith, low))
]

-- the same for the lowest m bits of two words
pub joined_low_bit : (P : ℕ → ℕ) (a b m from : ℕ) → ((k : ℕ) → k < m → bit_at a (m - 1 - k) ≡ P (from + k))
    → ((k : ℕ) → k < m → bit_at b (m - 1 - k) ≡ P (from + m + k))
    → (k : ℕ) → k < m + m → bit_at (a % 2 ^ m * 2 ^ m + b % 2 ^ m) (m + m - 1 - k) ≡ P (from + k)
joined_low_bit P a b m from first second =
    joined_bit P (a % 2 ^ m) (b % 2 ^ m) m from (mod-lt b (pow_pos m))
    (λ k inside. low_bit a m (m - 1 - k) (omega (arith, inside)) ∙ first k inside)
    (λ k inside. low_bit b m (m - 1 - k) (omega (arith, inside)) ∙ second k inside)

-- a 64-bit word without its first bit, followed by one more bit
pub next_bit : (P : ℕ → ℕ) (x last : ℕ) → last < 2 → ((k : ℕ) → k < 64 → bit_at x (63 - k) ≡ P k) → last ≡ P 64
    → (k : ℕ) → k < 64 → bit_at (x % 2 ^ 63 * 2 ^ 1 + last) (63 - k) ≡ P (k + 1)
next_bit P x last digit each is k inside =
    let lowest : bit_at last 0 ≡ last = omega (arith, digit, bit_at_lowest last) in
    let end : 63 - k ≡ 0 → bit_at (x % 2 ^ 63 * 2 ^ 1 + last) (63 - k) ≡ bit_at (x % 2 ^ 63 * 2 ^ 1 + last) 0 = ap (bit_at (x % 2 ^ 63 * 2 ^ 1 + last)) in
    elim (cases_lt k 63) [
      | inl before ↦
          bit_at_cat_high (x % 2 ^ 63) 1 last (63 - k) digit (omega (arith, before))
          ∙ low_bit x 63 (63 - k - 1) (omega (arith, before))
          ∙ ap (bit_at x) (omega (arith, before)) ∙ each (k + 1) (omega (arith, before))
      | inr at ↦
          end (omega (arith, at, inside))
          ∙ bit_at_cat_low (x % 2 ^ 63) 1 last 0 (lit< tt)
          ∙ lowest ∙ is ∙ ap P (omega (arith, at, inside))
    ]

-- bytes by their bits
of_bytes : (bytes : List ℕ) (P : ℕ → ℕ) → ((q r : ℕ) → q < length bytes → r < 8 → bit_at (slice_index bytes q) (7 - r) ≡ P (8 * q + r))
    → (i : ℕ) → i < 8 * length bytes → packed_bit bytes i ≡ P i
of_bytes bytes P each i inside = each (i / 8) (i % 8) (omega arith) (omega arith) ∙ ap P (omega arith)

-- the eight bytes of a 64-bit word
byte_at : (x q : ℕ) → q < 8 → slice_index (to_be_bytes w64 x) q ≡ x / 2 ^ (8 * (7 - q)) % 2 ^ 8
byte_at x =
    each_below (λ (q : ℕ). slice_index (to_be_bytes w64 x) q ≡ x / 2 ^ (8 * (7 - q)) % 2 ^ 8) 8
    (refl, (refl, (refl, (refl, (refl, (refl, (refl, (omega arith, tt))))))))

pub word_bit : (x i : ℕ) → i < 64 → packed_bit (to_be_bytes w64 x) i ≡ bit_at x (63 - i)
word_bit x =
    of_bytes (to_be_bytes w64 x) (λ (i : ℕ). bit_at x (63 - i))
    (λ q r inside less.
    ap (λ (byte : ℕ). bit_at byte (7 - r)) (byte_at x q inside)
    ∙ low_bit (x / 2 ^ (8 * (7 - q))) 8 (7 - r) (omega (arith, less))
    ∙ shr_bit x (8 * (7 - q)) (7 - r)
    ∙ ap (bit_at x) (omega (arith, inside, less)))

-- ---- bytes one after the other

-- what is left of the symbols after k bytes, and after eight more
pub next_rest : (symbols left : List ℕ) (k m n : ℕ) → left ≡ drop (8 * k) symbols → m ≡ min (length left) 64 → n ≡ k + 8
    → drop m left ≡ drop (8 * n) symbols
next_rest symbols left k m n rest count more = grind (arith, common_steps, drop-drop, min-eq_left, drop_all, length-drop, min-eq_right)

-- the bits of the bytes before, and of eight more
pub bits_more : (symbols left bytes more : List ℕ) → length more ≡ 8 → left ≡ drop (8 * length bytes) symbols
    → ((i : ℕ) → i < 8 * length bytes → i + 1 < length symbols → packed_bit bytes i ≡ hard_bit (symbols_of symbols) i)
    → ((i : ℕ) → i < 64 → i + 1 < length left → packed_bit more i ≡ hard_bit (symbols_of left) i)
    → (i : ℕ) → i < 8 * length (bytes ++ more) → i + 1 < length symbols
    → packed_bit (bytes ++ more) i ≡ hard_bit (symbols_of symbols) i
bits_more symbols left bytes more eight rest before last i inside there = elim (cases_lt i (8 * length bytes)) [
  | inl old ↦
      let at : i / 8 < length bytes = omega (arith, old) in
      ap (λ (byte : ℕ). bit_at byte (7 - i % 8)) (get_or_append_left bytes more 0 (i / 8) at) ∙ before i old there
  | inr new ↦
      let k : ℕ = length bytes in
      let count = length-append bytes more in
      let low : i - 8 * k < 64 = omega (arith, inside, count, eight) in
      let at : i / 8 ≡ k + (i - 8 * k) / 8 = omega (arith, new) in
      let place : i % 8 ≡ (i - 8 * k) % 8 = omega (arith, new) in
      let this : 8 * k + (i - 8 * k) ≡ i = omega (arith, new) in
      let next : 8 * k + (i - 8 * k + 1) ≡ i + 1 = omega (arith, new) in
      let left_long = ap length rest in
      let there_left : i - 8 * k + 1 < length left = omega (arith, there, new, left_long, length-drop (8 * k) symbols) in
      let moved : (m n : ℕ) → 8 * k + m ≡ n → slice_index left m ≡ slice_index symbols n =
      λ m n same. ap (λ (xs : List ℕ). slice_index xs m) rest ∙ get_or-drop (8 * k) symbols m 0 ∙ ap (slice_index symbols) same in
      ap₂ (λ (byte n : ℕ). bit_at byte (7 - n))
      (ap (slice_index (bytes ++ more)) at ∙ get_or-append-add bytes more ((i - 8 * k) / 8) 0) place
      ∙ last (i - 8 * k) low there_left
      ∙ same_bit left symbols (i - 8 * k) i there_left (omega (arith, there)) (moved (i - 8 * k) i this) (moved (i - 8 * k + 1) (i + 1) next)
]
