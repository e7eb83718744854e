-- Symbols as bytes of bits: of more symbols in a row, and of the symbols that are kept.
use Rattle.rds_abi.proofs.Shared.{common_steps, ◌≡◌, ◌+◌, ◌-◌, ◌*◌, ◌/◌, ◌%◌, ◌<◌, ◌≤◌, ◌∙◌, ℕ, List, ap, ap₂, arith, get_or, length, map, sym, take, get_or-take, length-take, packed_bit, ℤ, range_with_len, bit_at, number_from_digits, ext_get_or, get_or-map-range_with_len, length-map-range_with_len, hard_bit, byte_of, bytes_of}

-- two tables that say the same
pub same-tables : (f g : ℕ → ℕ) (a c n : ℕ) → ((j : ℕ) → j < n → f (a + j) ≡ g (c + j)) → map f (range_with_len a n) ≡ map g (range_with_len c n)
same-tables f g a c n same =
    ext_get_or 0 (map f (range_with_len a n)) (map g (range_with_len c n))
    (length-map-range_with_len f a n ∙ sym (length-map-range_with_len g c n)) (λ j inside.
    grind (arith, common_steps, length-map-range_with_len f a n, get_or-map-range_with_len f a n j (a + j) 0, get_or-map-range_with_len g c n j (c + j) 0, same j))

-- a byte is the number of its bits
byte-of-bits : (byte : ℕ) → byte < 256 → number_from_digits 2 (map (λ j. bit_at byte (7 - j)) (range_with_len 0 8)) ≡ byte
byte-of-bits byte small = omega (arith, small)

pub byte_count_of : (symbols : List ℤ) → length (bytes_of symbols) ≡ (length symbols - 1) / 8
byte_count_of symbols = length-map-range_with_len (λ k. byte_of symbols (8 * k)) 0 ((length symbols - 1) / 8)

-- the whole bytes of the bits of symbols, if these bytes have the bits
module _ (bytes : List ℕ) (symbols : List ℤ) (small : (k : ℕ) → get_or bytes k 0 < 256) (enough : length symbols ≤ 8 * length bytes + 1)
    (bits : (i : ℕ) → i + 1 < length symbols → packed_bit bytes i ≡ hard_bit symbols i) where
  byte-at : (k : ℕ) → k < (length symbols - 1) / 8 → get_or bytes k 0 ≡ byte_of symbols (8 * k)
  byte-at k inside =
      sym (byte-of-bits (get_or bytes k 0) (small k))
      ∙ ap (number_from_digits 2) (same-tables (λ j. bit_at (get_or bytes k 0) (7 - j)) (hard_bit symbols) 0 (8 * k) 8 (λ j within.
      let this : (8 * k + j) / 8 ≡ k = omega (arith, within) in
      let there : 7 - (8 * k + j) % 8 ≡ 7 - (0 + j) = omega (arith, within) in
      sym (ap₂ (λ (n i : ℕ). bit_at (get_or bytes n 0) i) this there) ∙ bits (8 * k + j) (omega (arith, inside, within))))

  pub packed-bytes : take ((length symbols - 1) / 8) bytes ≡ bytes_of symbols
  packed-bytes =
      let n : ℕ = (length symbols - 1) / 8 in
      ext_get_or 0 (take n bytes) (bytes_of symbols) (omega (arith, length-take n bytes, byte_count_of symbols, enough)) (λ k inside.
      grind (arith, common_steps, length-take n bytes, get_or-take n bytes k 0, byte-at k, get_or-map-range_with_len (λ i. byte_of symbols (8 * i)) 0 n k k 0))
