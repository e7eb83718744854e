-- Numbers whose binary digits are neighbouring places.
use Rattle.rds_stream.proofs.Names.{common_steps, ◌≡◌, ◌≢◌, ℕ, zero, suc, ◌+◌, ◌-◌, ◌*◌, ◌/◌, ◌%◌, ◌^◌, ◌<◌, ◌≤◌, refl, sym, ap, ◌∙◌, arith, bit_and, bit_or, ⊎_elim, List, length, get_or, take, drop, length-drop, add-one, ap₂, bit_at, pow-suc, mul_assoc, mod-eq_of_lt, cases_eq, shr-shr, shr_high, mod_low, or_shifted, and_mask, bit_at-lt, get_or-drop, get_or-map-range_with_len, length-map-range_with_len, length-zip2, with_items_is, packed_bit, bits_of, window, number_from_digits, digits_more}

-- the number whose n binary digits are the places of f that end with place i
unfoldable pub number : (ℕ → ℕ) → ℕ → ℕ → ℕ
number f zero i = 0
number f (suc n) i = 2 * number f n (i - 1) + f i

pub number_more : (f : ℕ → ℕ) (n i : ℕ) → number f (suc n) i ≡ 2 * number f n (i - 1) + f i
unfolding number
number_more f n i = refl

pub number-lt : (f : ℕ → ℕ) (n i : ℕ) → ((k : ℕ) → f k < 2) → number f n i < 2 ^ n
unfolding number
number-lt f zero i digits = omega arith
number-lt f (suc n) i digits = omega (arith, number-lt f n (i - 1) digits, pow-suc 2 n, digits i)

-- n places and then m more
pub number_split : (f : ℕ → ℕ) (n m i : ℕ) → number f (n + m) i ≡ number f n (i - m) * 2 ^ m + number f m i
unfolding number
number_split f n zero i = grind (arith, common_steps)
number_split f n (suc m) i =
    let a : n + suc m ≡ suc (n + m) = omega arith in
    let b : i - 1 - m ≡ i - suc m = omega arith in
    let e : number f n (i - suc m) * 2 ^ suc m ≡ number f n (i - suc m) * 2 ^ m * 2 = ap (λ y. number f n (i - suc m) * y) (pow-suc 2 m) ∙ sym (mul_assoc (number f n (i - suc m)) (2 ^ m) 2) in
    let before = number_split f n m (i - 1) ∙ ap (λ j. number f n j * 2 ^ m + number f m (i - 1)) b in
    ap (λ k. number f k i) a ∙ ap (λ x. 2 * x + f i) before ∙ omega (arith, e)

-- the last 26 places but e
pub number_part : (f : ℕ → ℕ) (n e i : ℕ) → ((k : ℕ) → f k < 2) → e + 26 ≤ n → number f n (i + e) / 2 ^ e % 2 ^ 26 ≡ number f 26 i
number_part f n e i digits room =
    let parts : n ≡ n - e - 26 + 26 + e = omega arith in
    let back : i + e - e ≡ i = omega arith in
    let upper : number f n (i + e) / 2 ^ e ≡ number f (n - e - 26 + 26) i =
    ap (λ k. number f k (i + e) / 2 ^ e) parts ∙ ap (λ x. x / 2 ^ e) (number_split f (n - e - 26 + 26) e (i + e))
    ∙ shr_high _ e _ (number-lt f e (i + e) digits) ∙ ap (number f (n - e - 26 + 26)) back in
    ap (λ x. x % 2 ^ 26) (upper ∙ number_split f (n - e - 26) 26 i) ∙ mod_low _ 26 _ (number-lt f 26 i digits)

pub number_same : (f g : ℕ → ℕ) (n i : ℕ) → ((k : ℕ) → k ≤ i → f k ≡ g k) → number f n i ≡ number g n i
unfolding number
number_same f g zero i same = refl
number_same f g (suc n) i same = grind (arith, common_steps, number_same f g n (i - 1) (λ k l. same k (omega arith)))

-- the first n digits of a list from place a on
pub digits_from : (b : List ℕ) (a n : ℕ) → a + n ≤ length b → number_from_digits 2 (take n (drop a b)) ≡ number (λ k. get_or b k 0) n (a + n - 1)
unfolding number
digits_from b a zero room = refl
digits_from b a (suc n) room =
    let f : ℕ → ℕ = λ k. get_or b k 0 in
    let more : n < length (drop a b) = omega (arith, length-drop a b) in
    let last : a + suc n - 1 ≡ a + n = omega arith in
    let step = digits_more 2 (drop a b) n more in
    let front = digits_from b a n (omega arith) in
    ap (λ m. number_from_digits 2 (take m (drop a b))) (sym (add-one n)) ∙ step
    ∙ ap₂ (λ x y. x * 2 + y) front (get_or-drop a b n 0) ∙ omega (arith, ap f last, ap (λ k. number f n (k - 1)) last)

-- a window of a list is the number of its 26 places
pub window_is : (b : List ℕ) (i : ℕ) → 25 ≤ i → i < length b → window b i ≡ number (λ k. get_or b k 0) 26 i
unfolding window
window_is b i first last = grind (arith, common_steps, digits_from)

pub packed_bit-lt : (bytes : List ℕ) (i : ℕ) → packed_bit bytes i < 2
packed_bit-lt bytes i = bit_at-lt (get_or bytes (i / 8) 0) (7 - i % 8)

pub length-bits_of : (bytes : List ℕ) (n : ℕ) → length (bits_of bytes n) ≡ n
length-bits_of bytes n = length-map-range_with_len (packed_bit bytes) 0 n

pub get_or-bits_of : (bytes : List ℕ) (n i : ℕ) → i < n → get_or (bits_of bytes n) i 0 ≡ packed_bit bytes i
get_or-bits_of bytes n i held = get_or-map-range_with_len (packed_bit bytes) 0 n i i 0 held (omega arith)

-- a window of the first n bits of the bytes
pub packed_window : (bytes : List ℕ) (n i : ℕ) → 25 ≤ i → i < n → window (bits_of bytes n) i ≡ number (packed_bit bytes) 26 i
packed_window bytes n i first last = grind (arith, common_steps, window_is, length-bits_of, number_same, get_or-bits_of)

bit_in : (bytes : List ℕ) (j s i : ℕ) → i + s ≡ 8 * j + 7 → s < 8 → packed_bit bytes i ≡ bit_at (get_or bytes j 0) s
bit_in bytes j s i e l = grind (arith, common_steps)

-- the eight places of a byte
pub number_byte : (bytes : List ℕ) (j : ℕ) → get_or bytes j 0 < 256 → number (packed_bit bytes) 8 (8 * j + 7) ≡ get_or bytes j 0
unfolding number
number_byte bytes j small =
    omega (
      arith,
      bit_in bytes j 0 (8 * j + 7) (omega arith) (omega arith),
      bit_in bytes j 1 (8 * j + 7 - 1) (omega arith) (omega arith),
      bit_in bytes j 2 (8 * j + 7 - 1 - 1) (omega arith) (omega arith),
      bit_in bytes j 3 (8 * j + 7 - 1 - 1 - 1) (omega arith) (omega arith),
      bit_in bytes j 4 (8 * j + 7 - 1 - 1 - 1 - 1) (omega arith) (omega arith),
      bit_in bytes j 5 (8 * j + 7 - 1 - 1 - 1 - 1 - 1) (omega arith) (omega arith),
      bit_in bytes j 6 (8 * j + 7 - 1 - 1 - 1 - 1 - 1 - 1) (omega arith) (omega arith),
      bit_in bytes j 7 (8 * j + 7 - 1 - 1 - 1 - 1 - 1 - 1 - 1) (omega arith) (omega arith),
    )

-- one more byte
pub number_more_byte : (n : ℕ) (bytes : List ℕ) (j : ℕ) → get_or bytes j 0 < 256 →
    number (packed_bit bytes) (n + 8) (8 * j + 7) ≡ number (packed_bit bytes) n (8 * j + 7 - 8) * 256 + get_or bytes j 0
number_more_byte n bytes j small = grind (arith, common_steps, number_split, number_byte)

byte_back : (f : ℕ → ℕ) (n j : ℕ) → number f n (8 * (j + 1) + 7 - 8) ≡ number f n (8 * j + 7)
byte_back f n j = ap (number f n) (omega arith)

-- the places of four bytes, and of five
pub number_four : (bytes : List ℕ) (j : ℕ) → get_or bytes j 0 < 256 → get_or bytes (j + 1) 0 < 256 → get_or bytes (j + 2) 0 < 256 → get_or bytes (j + 3) 0 < 256 →
    number (packed_bit bytes) 32 (8 * (j + 3) + 7) ≡ ((get_or bytes j 0 * 256 + get_or bytes (j + 1) 0) * 256 + get_or bytes (j + 2) 0) * 256 + get_or bytes (j + 3) 0
number_four bytes j zeroth first second third =
    let f = packed_bit bytes in
    let two : j + 1 + 1 ≡ j + 2 = omega arith in
    let three : j + 2 + 1 ≡ j + 3 = omega arith in
    let one_byte = number_byte bytes j zeroth in
    let two_bytes = number_more_byte 8 bytes (j + 1) first ∙ ap (λ x. x * 256 + get_or bytes (j + 1) 0) (byte_back f 8 j ∙ one_byte) in
    let three_bytes = number_more_byte 16 bytes (j + 2) second ∙ ap (λ x. x * 256 + get_or bytes (j + 2) 0) (ap (λ k. number f 16 (8 * k + 7 - 8)) (sym two) ∙ byte_back f 16 (j + 1) ∙ two_bytes) in
    number_more_byte 24 bytes (j + 3) third ∙ ap (λ x. x * 256 + get_or bytes (j + 3) 0) (ap (λ k. number f 24 (8 * k + 7 - 8)) (sym three) ∙ byte_back f 24 (j + 2) ∙ three_bytes)

pub number_five : (bytes : List ℕ) (j : ℕ) → get_or bytes j 0 < 256 →
    number (packed_bit bytes) 40 (8 * (j + 4) + 7) ≡ get_or bytes j 0 * 2 ^ 32 + number (packed_bit bytes) 32 (8 * (j + 4) + 7)
number_five bytes j small =
    let f = packed_bit bytes in
    let back : 8 * (j + 4) + 7 - 32 ≡ 8 * j + 7 = omega arith in
    number_split f 8 32 (8 * (j + 4) + 7) ∙ ap (λ x. x * 2 ^ 32 + number f 32 (8 * (j + 4) + 7)) (ap (number f 8) back ∙ number_byte bytes j small)

-- the window that the code makes of the four bytes up to that of place i, and of the one before them if the
-- window begins in it
pub window_of_bytes : (bytes : List ℕ) (n i before four : ℕ) → 25 ≤ i → i < n → before < 256 →
    get_or bytes (i / 8 - 3) 0 < 256 → get_or bytes (i / 8 - 2) 0 < 256 → get_or bytes (i / 8 - 1) 0 < 256 → get_or bytes (i / 8) 0 < 256 →
    four ≡ get_or bytes (i / 8 - 3) 0 * 16777216 + get_or bytes (i / 8 - 2) 0 * 65536 + get_or bytes (i / 8 - 1) 0 * 256 + get_or bytes (i / 8) 0 →
    (i % 8 ≡ 0 → before ≡ get_or bytes (i / 8 - 4) 0) → (i % 8 ≢ 0 → before ≡ 0) →
    bit_and (bit_or (before * 2 ^ 32 % 2 ^ 64) four / 2 ^ (7 - i % 8)) (2 ^ 26 - 1) ≡ window (bits_of bytes n) i
window_of_bytes bytes n i before four first last small zeroth_fits first_fits second_fits third_fits four_is at_edge inside =
    let f = packed_bit bytes in
    let e = 7 - i % 8 in
    let top = i + e in
    let byte = i / 8 - 3 in
    let digits : (k : ℕ) → f k < 2 = packed_bit-lt bytes in
    let one : i / 8 - 2 ≡ byte + 1 = omega arith in
    let two : i / 8 - 1 ≡ byte + 2 = omega arith in
    let three : i / 8 ≡ byte + 3 = omega arith in
    let end : 8 * (byte + 3) + 7 ≡ top = omega arith in
    let at_one = ap (λ k. get_or bytes k 0) one in
    let at_two = ap (λ k. get_or bytes k 0) two in
    let at_three = ap (λ k. get_or bytes k 0) three in
    let low : four ≡ number f 32 top = omega (
      arith,
      four_is,
      at_one,
      at_two,
      at_three,
      ap (number f 32) end,
      number_four bytes byte zeroth_fits (omega (arith, at_one)) (omega (arith, at_two)) (omega (arith, at_three)),
    ) in
    let four_fits : four < 2 ^ 32 = omega (arith, low, number-lt f 32 top digits) in
    let masked : (m : ℕ) → bit_or (before * 2 ^ 32 % 2 ^ 64) four ≡ number f m top → e + 26 ≤ m → bit_and (bit_or (before * 2 ^ 32 % 2 ^ 64) four / 2 ^ e) (2 ^ 26 - 1) ≡ number f 26 i =
    λ m whole room. and_mask (bit_or (before * 2 ^ 32 % 2 ^ 64) four / 2 ^ e) 26 ∙ ap (λ x. x / 2 ^ e % 2 ^ 26) whole ∙ number_part f m e i digits room in
    let joined : bit_or (before * 2 ^ 32 % 2 ^ 64) four ≡ before * 2 ^ 32 + four =
    ap (λ x. bit_or x four) (mod-eq_of_lt (omega arith)) ∙ or_shifted before 32 four four_fits in
    let number_is : bit_and (bit_or (before * 2 ^ 32 % 2 ^ 64) four / 2 ^ e) (2 ^ 26 - 1) ≡ number f 26 i = ⊎_elim
    (λ (edge : i % 8 ≡ 0).
    let before_is = at_edge edge in
    let start : i / 8 - 4 + 4 ≡ byte + 3 = omega arith in
    let five = number_five bytes (i / 8 - 4) (omega (arith, before_is)) in
    let end_too : 8 * (i / 8 - 4 + 4) + 7 ≡ top = omega arith in
    masked 40 (joined ∙ omega (arith, before_is, five, low, ap (number f 32) end_too, ap (number f 40) end_too)) (omega arith))
    (λ (off_edge : i % 8 ≢ 0).
    let before_is = inside off_edge in
    masked 32 (joined ∙ omega (arith, before_is, low)) (omega arith))
    (cases_eq (i % 8) 0) in
    number_is ∙ sym (packed_window bytes n i first last)

-- the places of eight bytes
number_eight : (bytes : List ℕ) (j : ℕ) → ((k : ℕ) → get_or bytes k 0 < 256) → number (packed_bit bytes) 64 (8 * (j + 7) + 7)
    ≡ (((get_or bytes j 0 * 256 + get_or bytes (j + 1) 0) * 256 + get_or bytes (j + 2) 0) * 256 + get_or bytes (j + 3) 0) * 2 ^ 32
    + (((get_or bytes (j + 4) 0 * 256 + get_or bytes (j + 5) 0) * 256 + get_or bytes (j + 6) 0) * 256 + get_or bytes (j + 7) 0)
number_eight bytes j small =
    let f = packed_bit bytes in
    let back : 8 * (j + 7) + 7 - 32 ≡ 8 * (j + 3) + 7 = omega arith in
    let five : j + 4 + 1 ≡ j + 5 = omega arith in
    let six : j + 4 + 2 ≡ j + 6 = omega arith in
    let seven : j + 4 + 3 ≡ j + 7 = omega arith in
    let high = ap (number f 32) back ∙ number_four bytes j (small j) (small (j + 1)) (small (j + 2)) (small (j + 3)) in
    let low = number_four bytes (j + 4) (small (j + 4)) (small (j + 4 + 1)) (small (j + 4 + 2)) (small (j + 4 + 3)) in
    number_split f 32 32 (8 * (j + 7) + 7)
    ∙ omega (
      arith,
      high,
      low,
      ap (λ k. number f 32 (8 * k + 7)) seven,
      ap (λ k. get_or bytes k 0) five,
      ap (λ k. get_or bytes k 0) six,
      ap (λ k. get_or bytes k 0) seven,
    )

-- the number of the eight bytes up to that of place i
number_of_eight : (bytes : List ℕ) (i eight : ℕ) → 7 ≤ i / 8 → ((k : ℕ) → get_or bytes k 0 < 256) →
    eight ≡ get_or bytes (i / 8 - 7) 0 * 72057594037927936 + get_or bytes (i / 8 - 6) 0 * 281474976710656 + get_or bytes (i / 8 - 5) 0 * 1099511627776
    + get_or bytes (i / 8 - 4) 0 * 4294967296 + get_or bytes (i / 8 - 3) 0 * 16777216 + get_or bytes (i / 8 - 2) 0 * 65536
    + get_or bytes (i / 8 - 1) 0 * 256 + get_or bytes (i / 8) 0 →
    eight ≡ number (packed_bit bytes) 64 (i + (7 - i % 8))
number_of_eight bytes i eight late small eight_is =
    let f = packed_bit bytes in
    let byte = i / 8 - 7 in
    let one : i / 8 - 6 ≡ byte + 1 = omega arith in
    let two : i / 8 - 5 ≡ byte + 2 = omega arith in
    let three : i / 8 - 4 ≡ byte + 3 = omega arith in
    let four : i / 8 - 3 ≡ byte + 4 = omega arith in
    let five : i / 8 - 2 ≡ byte + 5 = omega arith in
    let six : i / 8 - 1 ≡ byte + 6 = omega arith in
    let seven : i / 8 ≡ byte + 7 = omega arith in
    let end : 8 * (byte + 7) + 7 ≡ i + (7 - i % 8) = omega arith in
    omega (
      arith,
      eight_is,
      ap (λ k. get_or bytes k 0) one,
      ap (λ k. get_or bytes k 0) two,
      ap (λ k. get_or bytes k 0) three,
      ap (λ k. get_or bytes k 0) four,
      ap (λ k. get_or bytes k 0) five,
      ap (λ k. get_or bytes k 0) six,
      ap (λ k. get_or bytes k 0) seven,
      ap (number f 64) end,
      number_eight bytes byte small,
    )

-- the window that the code makes of the eight bytes up to that of place i
pub window_of_eight : (bytes : List ℕ) (n i eight : ℕ) → 25 ≤ i → i < n → 7 ≤ i / 8 → ((k : ℕ) → get_or bytes k 0 < 256) →
    eight ≡ get_or bytes (i / 8 - 7) 0 * 72057594037927936 + get_or bytes (i / 8 - 6) 0 * 281474976710656 + get_or bytes (i / 8 - 5) 0 * 1099511627776
    + get_or bytes (i / 8 - 4) 0 * 4294967296 + get_or bytes (i / 8 - 3) 0 * 16777216 + get_or bytes (i / 8 - 2) 0 * 65536
    + get_or bytes (i / 8 - 1) 0 * 256 + get_or bytes (i / 8) 0 →
    bit_and (eight / 2 ^ (7 - i % 8)) (2 ^ 26 - 1) ≡ window (bits_of bytes n) i
window_of_eight bytes n i eight first last late small eight_is =
    let f = packed_bit bytes in
    let e = 7 - i % 8 in
    and_mask (eight / 2 ^ e) 26 ∙ ap (λ x. x / 2 ^ e % 2 ^ 26) (number_of_eight bytes i eight late small eight_is)
    ∙ number_part f 64 e i (packed_bit-lt bytes) (omega arith) ∙ sym (packed_window bytes n i first last)

-- and of the block before it, which they hold too
pub window_before_of_eight : (bytes : List ℕ) (n i eight : ℕ) → 51 ≤ i → i < n → 7 ≤ i / 8 → ((k : ℕ) → get_or bytes k 0 < 256) →
    eight ≡ get_or bytes (i / 8 - 7) 0 * 72057594037927936 + get_or bytes (i / 8 - 6) 0 * 281474976710656 + get_or bytes (i / 8 - 5) 0 * 1099511627776
    + get_or bytes (i / 8 - 4) 0 * 4294967296 + get_or bytes (i / 8 - 3) 0 * 16777216 + get_or bytes (i / 8 - 2) 0 * 65536
    + get_or bytes (i / 8 - 1) 0 * 256 + get_or bytes (i / 8) 0 →
    bit_and (eight / 2 ^ (7 - i % 8) / 2 ^ 26) (2 ^ 26 - 1) ≡ window (bits_of bytes n) (i - 26)
window_before_of_eight bytes n i eight first last late small eight_is =
    let f = packed_bit bytes in
    let e = 7 - i % 8 in
    let top : i + e ≡ i - 26 + (e + 26) = omega arith in
    and_mask (eight / 2 ^ e / 2 ^ 26) 26 ∙ ap (λ x. x % 2 ^ 26) (shr-shr eight e 26)
    ∙ ap (λ x. x / 2 ^ (e + 26) % 2 ^ 26) (number_of_eight bytes i eight late small eight_is ∙ ap (number f 64) top)
    ∙ number_part f 64 (e + 26) (i - 26) (packed_bit-lt bytes) (omega arith) ∙ sym (packed_window bytes n (i - 26) (omega arith) (omega arith))

-- for functions that read the bits of packed bytes, or lanes
pub ruleset steps = (common_steps, length-bits_of, length-zip2, with_items_is)
