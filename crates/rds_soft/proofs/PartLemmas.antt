-- A part of a stream of symbols: the bits between its symbols, what is heard of them, and the symbols of its blocks.
use Rattle.rds_soft.proofs.Names.{◌≡◌, refl, ◌+◌, ◌-◌, ◌<◌, ◌≤◌, ◌++◌, ◌⊎◌, ◌∙◌, ℕ, List, Bool, Option, Some, None, true, false, ap, ap₂, arith, drop, length, sym, take, ℤ, nat_lt, list_any, cast_signed, w8, lt-ltb, drop-append-le, drop-drop, ext_get_or, length-drop, length-map, map-append, take-append-le, get_or-map-range_with_len, length-map-range_with_len, Signal, bits_of, heard, is_touched_by, length_of, packed_bit, touched, window, IsPartHeard, most_behind, TouchAlike, SymbolsHaveWindows, symbols_of, hard_bit, hard_bits, hard_window}
use Rattle.rds_soft.proofs.InsideLemmas.{AreSymbolsOf}
pub use Rattle.rds_soft.proofs.SymbolLemmas.{bit_count as length-bits}
use Rattle.std.proofs.lemmas.List.{drop-map}

-- ---- bits

pub length-symbols : (symbols : List ℕ) → length (symbols_of symbols) ≡ length symbols
length-symbols symbols = length-map symbols (cast_signed w8)

-- packed bits that are those of symbols
pub bits-are : (packed symbols : List ℕ) (n : ℕ) → n ≡ length symbols - 1 → ((i : ℕ) → i + 1 < length symbols → packed_bit packed i ≡ hard_bit (symbols_of symbols) i)
    → bits_of packed n ≡ hard_bits (symbols_of symbols)
bits-are packed symbols n is same =
    let all : length (symbols_of symbols) - 1 ≡ n = omega (arith, is, length-symbols symbols) in
    ext_get_or 0 (bits_of packed n) (hard_bits (symbols_of symbols))
    (length-map-range_with_len (packed_bit packed) 0 n ∙ sym (length-bits (symbols_of symbols) ∙ all)) (λ i inside.
    let within : i < n = omega (arith, inside, length-map-range_with_len (packed_bit packed) 0 n) in
    get_or-map-range_with_len (packed_bit packed) 0 n i i 0 within (omega arith) ∙ same i (omega (arith, within, is))
    ∙ sym (get_or-map-range_with_len (hard_bit (symbols_of symbols)) 0 (length (symbols_of symbols) - 1) i i 0 (omega (arith, within, all)) (omega arith)))

-- ---- a part and the whole

-- the symbols P with these gaps are those of W from number d on, with the gaps there
module _ (windows : SymbolsHaveWindows) (gaps of_part : List (ℕ × ℕ)) (P W later : List ℕ) (d : ℕ) (alike : TouchAlike d (length P - 1) gaps of_part)
    (split : drop d W ≡ P ++ later) (reach : d + length P ≤ length W) where
  abbrev n : ℕ
  n = length P - 1

  abbrev S : List ℕ → List ℤ
  S = symbols_of

  abbrev part : Signal
  part = record { bits = hard_bits (S P); gaps = of_part }

  abbrev whole : Signal
  whole = record { bits = hard_bits (S W); gaps = gaps }

  splits : drop d (S W) ≡ S P ++ S later
  splits = drop-map (cast_signed w8) d W ∙ ap S split ∙ map-append (cast_signed w8) P later

  same-symbols : (first : ℕ) → first + 26 < length P → take 27 (drop first (S P)) ≡ take 27 (drop (first + d) (S W))
  same-symbols first inside =
      let at : d + first ≡ first + d = omega arith in
      sym (take-append-le 27 (drop first (S P)) (S later) (omega (arith, inside, length-symbols P, length-drop first (S P))))
      ∙ ap (take 27) (sym (drop-append-le first (S P) (S later) (omega (arith, inside, length-symbols P))))
      ∙ ap (λ (xs : List ℤ). take 27 (drop first xs)) (sym splits)
      ∙ ap (take 27) (drop-drop first d (S W))
      ∙ ap (λ (k : ℕ). take 27 (drop k (S W))) at

  window-same : (i : ℕ) → 25 ≤ i → i < n → window (hard_bits (S P)) i ≡ window (hard_bits (S W)) (i + d)
  window-same i late inside =
      let here : i - 25 + 25 ≡ i = omega (arith, late) in
      let there : i - 25 + d + 25 ≡ i + d = omega (arith, late) in
      ap (window (hard_bits (S P))) (sym here)
      ∙ windows (S P) (i - 25) (omega (arith, late, inside, length-symbols P))
      ∙ ap hard_window (same-symbols (i - 25) (omega (arith, late, inside)))
      ∙ sym (windows (S W) (i - 25 + d) (omega (arith, late, inside, reach, length-symbols W)))
      ∙ ap (window (hard_bits (S W))) there

  long : length_of part ≡ n
  long = length-bits (S P) ∙ ap (λ (k : ℕ). k - 1) (length-symbols P)

  -- all of the part is heard in the whole
  pub part-heard : (from : ℕ) → (d ≡ 0) ⊎ (most_behind ≤ from) → IsPartHeard whole part d from
  unfolding heard touched
  part-heard from early = record {
    heard_same = λ i late inside.
        let within : i < n = omega (arith, inside, long) in
        ap₂ (λ (t : Bool) (w : ℕ). elim t as (λ _. Option ℕ) [ true ↦ None | false ↦ Some w ]) (alike i late within) (window-same i late within);
    early = early;
  }

  -- and so are the symbols of its blocks
  pub part-symbols : AreSymbolsOf part (S P) n whole (S W) d
  unfolding touched
  part-symbols first early =
      let place : first + 25 + d ≡ first + d + 25 = omega arith in
      let ends : nat_lt (first + 25) (length_of part) ≡ nat_lt (first + d + 25) (length_of whole) =
      lt-ltb (first + 25) (length_of part) (omega (arith, long, early))
      ∙ sym (lt-ltb (first + d + 25) (length_of whole) (omega (arith, length-bits (S W), length-symbols W, reach, early))) in
      let touches : touched part (first + 25) ≡ touched whole (first + d + 25) =
      alike (first + 25) (omega arith) early ∙ ap (λ (p : ℕ). list_any (is_touched_by p) gaps) place in
      let there : nat_lt (first + 26) (length (S P)) ≡ nat_lt (first + d + 26) (length (S W)) =
      lt-ltb (first + 26) (length (S P)) (omega (arith, length-symbols P, early))
      ∙ sym (lt-ltb (first + d + 26) (length (S W)) (omega (arith, length-symbols W, reach, early))) in
      let same = same-symbols first (omega (arith, early)) in
      rw (ends, touches, there, same) refl
