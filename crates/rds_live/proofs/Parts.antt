-- A part of a stream, cut at a byte.
use Rattle.rds_live.proofs.Names.{common_steps, ◌≡◌, ℕ, zero, suc, ◌+◌, ◌-◌, ◌*◌, ◌⊎◌, ◌<◌, ◌≤◌, List, ◌∷◌, ◌++◌, length, get_or, map, take, drop, refl, sym, ap, ap₂, subst, ◌∙◌, arith, length-drop, length-append, get_or-drop, drop-append-le, get_or-append, length-map-range_with_len, take-map-range_with_len, range_with_len, slice_range, number_from_digits, bits_of, packed_bit, window, touched, heard, length_of, IsPartHeard, most_behind, signal_at, signal_of, last_bytes, most_kept}
use Rattle.rds_live.proofs.GapParts.{TouchAlike}

pub length-signal : (gaps : List (ℕ × ℕ)) (bytes : List ℕ) → length_of (signal_of gaps bytes) ≡ 8 * length bytes
length-signal gaps bytes = length-map-range_with_len (packed_bit bytes) 0 (8 * length bytes)

pub length-at : (gaps : List (ℕ × ℕ)) (bytes : List ℕ) (bits : ℕ) → length_of (signal_at gaps bytes bits) ≡ bits
length-at gaps bytes bits = length-map-range_with_len (packed_bit bytes) 0 bits

-- a part of a table
pub drop-table : {X : Type 0} (f : ℕ → X) (s n a : ℕ) → drop a (map f (range_with_len s n)) ≡ map f (range_with_len (s + a) (n - a))
drop-table f s n zero = grind (arith, common_steps)
drop-table f s zero (suc a) = grind (arith, common_steps)
drop-table f s (suc n) (suc a) = grind (arith, common_steps, drop-table f (s + 1) n a)

part-table : (f : ℕ → ℕ) (n a z : ℕ) → z ≤ n → slice_range (map f (range_with_len 0 n)) a z ≡ map f (range_with_len a (z - a))
part-table f n a z within =
    let start : 0 + a ≡ a = omega arith in
    ap (take (z - a)) (drop-table f 0 n a ∙ ap (λ (p : ℕ). map f (range_with_len p (n - a))) start)
    ∙ take-map-range_with_len f a (n - a) (z - a) (omega arith)

-- two tables that say the same
same-tables : (f g : ℕ → ℕ) (a c n : ℕ) → ((j : ℕ) → j < n → f (a + j) ≡ g (c + j)) → map f (range_with_len a n) ≡ map g (range_with_len c n)
same-tables f g a c zero same = refl
same-tables f g a c (suc n) same =
    let here : f a ≡ g c = subst (λ (p : ℕ). f p ≡ g c) (zero_more a) (subst (λ (p : ℕ). f (a + 0) ≡ g p) (zero_more c) (same 0 (omega arith))) in
    ap₂ (λ (x : ℕ) (xs : List ℕ). x ∷ xs) here (same-tables f g (a + 1) (c + 1) n (λ j h. one_more j (same (j + 1) (omega arith)))) where
      zero_more : (p : ℕ) → p + 0 ≡ p
      zero_more p = omega arith

      one_more : (j : ℕ) → f (a + (j + 1)) ≡ g (c + (j + 1)) → f (a + 1 + j) ≡ g (c + 1 + j)
      one_more j e =
          let there : a + (j + 1) ≡ a + 1 + j = omega arith in
          let other : c + (j + 1) ≡ c + 1 + j = omega arith in
          subst (λ (p : ℕ). f p ≡ g (c + 1 + j)) there (subst (λ (p : ℕ). f (a + (j + 1)) ≡ g p) other e)

-- these bytes are in those, from number k on
pub record IsPartOf (whole part : List ℕ) (k : ℕ) : Type 0 where
  pub within : k + length part ≤ length whole
  pub same : (j : ℕ) → j < length part → get_or part j 0 ≡ get_or whole (k + j) 0

module _ (whole part : List ℕ) (k : ℕ) (h : IsPartOf whole part k) where
  packed-part : (j : ℕ) → j < 8 * length part → packed_bit part j ≡ packed_bit whole (j + 8 * k)
  packed-part j early = grind (arith, common_steps)

  -- the first m bits of the part are in the first n of the whole
  module _ (m n : ℕ) (held : m ≤ 8 * length part) (inside : m + 8 * k ≤ n) where
    window-part : (i : ℕ) → 25 ≤ i → i < m → window (bits_of part m) i ≡ window (bits_of whole n) (i + 8 * k)
    unfolding window
    window-part i late early =
        let bits : i + 8 * k + 1 - (i + 8 * k - 25) ≡ i + 1 - (i - 25) = omega arith in
        let here = part-table (packed_bit part) m (i - 25) (i + 1) (omega arith) in
        let there = part-table (packed_bit whole) n (i + 8 * k - 25) (i + 8 * k + 1) (omega (arith, inside)) in
        let both : map (packed_bit part) (range_with_len (i - 25) (i + 1 - (i - 25))) ≡ map (packed_bit whole) (range_with_len (i + 8 * k - 25) (i + 1 - (i - 25))) =
        same-tables (packed_bit part) (packed_bit whole) (i - 25) (i + 8 * k - 25) (i + 1 - (i - 25)) (λ j few. at_bit j few) in
        ap (λ (digits : List ℕ). number_from_digits 2 digits)
        (here ∙ both ∙ ap (λ (n : ℕ). map (packed_bit whole) (range_with_len (i + 8 * k - 25) n)) (sym bits) ∙ sym there) where
          at_bit : (j : ℕ) → j < i + 1 - (i - 25) → packed_bit part (i - 25 + j) ≡ packed_bit whole (i + 8 * k - 25 + j)
          at_bit j few =
              let place : i - 25 + j + 8 * k ≡ i + 8 * k - 25 + j = omega arith in
              packed-part (i - 25 + j) (omega arith) ∙ ap (λ (p : ℕ). packed_bit whole p) place

    module _ (of_whole of_part : List (ℕ × ℕ)) (alike : TouchAlike (8 * k) m of_whole of_part) where
      heard-part : (i : ℕ) → 25 ≤ i → i < m → heard (signal_at of_part part m) i ≡ heard (signal_at of_whole whole n) (i + 8 * k)
      unfolding heard touched
      heard-part i late early = grind (arith, common_steps, window-part, heard)

      pub bits-heard : (from : ℕ) → (8 * k ≡ 0) ⊎ (most_behind ≤ from) → IsPartHeard (signal_at of_whole whole n) (signal_at of_part part m) (8 * k) from
      bits-heard from early = record {
        heard_same = λ i late within. heard-part i late (omega (arith, length-map-range_with_len (packed_bit part) 0 m));
        early = early;
      }

-- all of the bytes
pub whole-part : (bytes : List ℕ) → IsPartOf bytes bytes 0
whole-part bytes = record { within = omega arith; same = λ j h. let e : j ≡ 0 + j = omega arith in ap (λ (p : ℕ). get_or bytes p 0) e }

-- the bytes so far are the beginning of all
pub first-part : (bytes more : List ℕ) → IsPartOf (bytes ++ more) bytes 0
first-part bytes more = grind (arith, common_steps, length-append, get_or-append)

-- and the last of them with those that follow at its end
pub last-part : (bytes more : List ℕ) → IsPartOf (bytes ++ more) (last_bytes bytes ++ more) (length bytes - most_kept)
last-part bytes more = grind (arith, common_steps, drop-append-le, length-append, length-drop, get_or-drop)

-- the first bits of bytes that go on
pub bits-begin : (bytes more : List ℕ) (n : ℕ) → n ≤ 8 * length bytes → bits_of bytes n ≡ bits_of (bytes ++ more) n
bits-begin bytes more n held = grind (arith, common_steps, same-tables, get_or-append)
