-- The bytes of hexadecimal text, digit by digit.
use Rattle.rds_tool.proofs.Names.{◌%◌, ◌*◌, ◌+◌, ◌++◌, ◌<◌, ◌∙◌, ◌∷◌, ◌≡◌, ◌≤◌, Bool, Err, List, None, Ok, Option, Result, Some, [], ap, append_assoc, arith, cond, drop, false, length, not, refl, set, slice_index, sym, take, true, ℕ, IfSome, is_some, filter, drop-cons, eqb-true, common_steps, append-nil, drop-set-lt, length-set, take_more_set, decode_of, decode_pairs, digit_or_error, hex_digit_value, ◌>>=◌, FromHexError, and_then, decoded, is_blank, or_hex_text, RdsError, HexText}
use Rattle.rds_tool.specs.Inside.HexText.{IsDecodedBy, IsStrangeAfter, bytes_after, bytes_after_of, bytes_of, with_byte}

-- ---- pairs of digits

module _ (h l i : ℕ) where
  pair_is : (high low : Option ℕ) (more : Result (List ℕ) FromHexError)
      → or_hex_text ((digit_or_error h i high >>= (λ a. digit_or_error l (i + 1) low >>= (λ b. Ok (a * 16 + b)))) >>= (λ byte. more >>= (λ bytes. Ok (byte ∷ bytes))))
      ≡ with_byte high low (or_hex_text more)
  pair_is high low more = grind (arith, common_steps)

pairs_are : (i : ℕ) (digits : List ℕ) → or_hex_text (decode_pairs i digits) ≡ bytes_of digits
unfolding decode_pairs
pairs_are i [] = refl
pairs_are i (high ∷ []) = refl
pairs_are i (high ∷ low ∷ digits) =
    pair_is high low i (hex_digit_value high) (hex_digit_value low) (decode_pairs (i + 2) digits)
    ∙ ap (with_byte (hex_digit_value high) (hex_digit_value low)) (pairs_are (i + 2) digits)

none_with : (high low : Option ℕ) → with_byte high low (Err HexText) ≡ Err HexText
none_with high low = grind (arith, common_steps)

odd_none : (digits : List ℕ) → length digits % 2 ≡ 1 → bytes_of digits ≡ Err HexText
odd_none [] odd = absurd (omega (arith, odd))
odd_none (high ∷ []) odd = refl
odd_none (high ∷ low ∷ digits) odd = grind (arith, common_steps, none_with, odd_none digits (omega (arith, odd)))

whole_is : (digits : List ℕ) → or_hex_text (decode_of digits) ≡ bytes_of digits
whole_is digits = grind (arith, common_steps, odd_none, eqb-true, pairs_are)

first_digit : (digit value : ℕ) (digits : List ℕ) → hex_digit_value digit ≡ Some value → bytes_after None (digit ∷ digits) ≡ bytes_after (Some value) digits
first_digit digit value digits is = grind (arith, common_steps, bytes_after)

then_same : (r : Result (List ℕ) RdsError) → r ≡ and_then r (λ more. Ok ([] ++ more))
then_same r = grind (arith, common_steps)

-- ---- text that comes in parts

abbrev not_blank : ℕ → Bool
not_blank b = not (is_blank b)

decoded_is : (text : List ℕ) → decoded text ≡ bytes_after_of None (text ++ [])
decoded_is text = whole_is (filter not_blank text) ∙ ap (bytes_after_of None) (sym (append-nil text))

whole_text : (text bytes : List ℕ) → IsDecodedBy None text bytes None → decoded text ≡ Ok bytes
whole_text text bytes by = decoded_is text ∙ by [] ∙ ap (λ t. Ok t) (append-nil bytes)

half_text : (text bytes : List ℕ) (digit : ℕ) → IsDecodedBy None text bytes (Some digit) → decoded text ≡ Err HexText
half_text text bytes digit by = decoded_is text ∙ by []

pub odd_text : (text bytes : List ℕ) (half : Option ℕ) → is_some half ≡ true → IsDecodedBy None text bytes half → decoded text ≡ Err HexText
odd_text text bytes None some by = cc some
odd_text text bytes (Some digit) some by = half_text text bytes digit by

pub even_text : (text bytes : List ℕ) (half : Option ℕ) → is_some half ≡ false → IsDecodedBy None text bytes half → decoded text ≡ Ok bytes
even_text text bytes None none by = whole_text text bytes by
even_text text bytes (Some digit) none by = cc none

pub strange_text : (text : List ℕ) → IsStrangeAfter None text → decoded text ≡ Err HexText
strange_text text strange = decoded_is text ∙ strange []

module _ (text part : List ℕ) where
  module _ (bytes : List ℕ) (half : Option ℕ) (by : IsDecodedBy None text bytes half) where
    first : (more : List ℕ) → bytes_after_of None ((text ++ part) ++ more) ≡ and_then (bytes_after_of half (part ++ more)) (λ rest. Ok (bytes ++ rest))
    first more = ap (bytes_after_of None) (append_assoc text part more) ∙ by (part ++ more)

    pub decoded_on : (next : List ℕ) (left : Option ℕ) → IsDecodedBy half part next left → IsDecodedBy None (text ++ part) (bytes ++ next) left
    decoded_on next left also more =
        first more ∙ ap (λ r. and_then r (λ rest. Ok (bytes ++ rest))) (also more) ∙ both (bytes_after_of left more) where
          both : (r : Result (List ℕ) RdsError) → and_then (and_then r (λ rest. Ok (next ++ rest))) (λ rest. Ok (bytes ++ rest)) ≡ and_then r (λ rest. Ok ((bytes ++ next) ++ rest))
          both (Ok rest) = ap (λ t. Ok t) (sym (append_assoc bytes next rest))
          both (Err e) = refl

-- ---- text that is decoded in place

abbrev counted : Option ℕ → ℕ
counted None = 0
counted (Some high) = 1

at_most_one : (high : Option ℕ) → counted high ≤ 1
at_most_one high = grind (arith, common_steps)

-- up to a place the digits, after a first one if there is one, are decoded to the first bytes, except a first digit of a pair, if
-- there is one
pub record HasDecoded (start : Option ℕ) (text now : List ℕ) (at count : ℕ) (high : Option ℕ) : Type 0 where
  pub left : drop at now ≡ drop at text
  pub long : length now ≡ length text
  pub order : 2 * count + counted high ≤ at + counted start
  pub small : IfSome high (λ value. value < 16)
  pub rest : (more : List ℕ) → bytes_after_of start (text ++ more) ≡ and_then (bytes_after_of high (drop at text ++ more)) (λ rest. Ok (take count now ++ rest))

pub decoded_none : (start : Option ℕ) (text : List ℕ) → IfSome start (λ value. value < 16) → HasDecoded start text text 0 0 start
decoded_none start text small = record {
  left = refl;
  long = refl;
  order = omega arith;
  small = small;
  rest = λ more. then_same (bytes_after_of start (text ++ more));
}

module _ (start : Option ℕ) (text now : List ℕ) (at count : ℕ) (high : Option ℕ) (has : HasDecoded start text now at count high) (inside : at < length now) where
  here : drop at text ≡ slice_index now at ∷ drop (at + 1) text
  here = grind (arith, common_steps, slice_index, drop-cons)

  after : drop (at + 1) now ≡ drop (at + 1) text
  after = grind (arith, common_steps, slice_index, drop-cons, here)

  module _ (more : List ℕ) where
    -- the digits after this one
    abbrev later : List ℕ
    later = filter not_blank (drop (at + 1) text ++ more)

    abbrev to_all : Result (List ℕ) RdsError → Result (List ℕ) RdsError
    to_all r = and_then r (λ rest. Ok (take count now ++ rest))

    left_after : (blank : Bool) → is_blank (slice_index now at) ≡ blank → filter not_blank (drop at text ++ more) ≡ cond (not blank) (slice_index now at ∷ later) later
    left_after blank is = ap (λ xs. filter not_blank (xs ++ more)) here ∙ ap (λ t. cond (not t) (slice_index now at ∷ later) later) is

    rest_after : (blank : Bool) → is_blank (slice_index now at) ≡ blank
        → bytes_after_of start (text ++ more) ≡ to_all (bytes_after high (cond (not blank) (slice_index now at ∷ later) later))
    rest_after blank is = has.rest more ∙ ap (λ digits. to_all (bytes_after high digits)) (left_after blank is)

  pub begun : (value : ℕ) → high ≡ None → is_blank (slice_index now at) ≡ false → hex_digit_value (slice_index now at) ≡ Some value → value < 16
      → HasDecoded start text now (at + 1) count (Some value)
  begun value none blank some small = grind (arith, common_steps, after, rest_after, bytes_after, slice_index, first_digit)

  pub ended : (first value : ℕ) → high ≡ Some first → is_blank (slice_index now at) ≡ false → hex_digit_value (slice_index now at) ≡ Some value
      → HasDecoded start text (set now count (16 * first + value)) (at + 1) (count + 1) None
  ended first value is blank some =
      let one : 2 * count + 1 ≤ at + counted start = omega (arith, has.order, ap counted is) in
      let near : count ≤ at = omega (arith, one, at_most_one start) in
      let sum : first * 16 + value ≡ 16 * first + value = omega arith in
      let byte : ℕ = 16 * first + value in
      record {
        left = drop-set-lt (at + 1) now count byte (omega (arith, near)) ∙ after;
        long = length-set now count byte ∙ has.long;
        order = omega (arith, one);
        small = tt;
        rest = λ more. rest_after more false blank
            ∙ ap (λ h. to_all more (bytes_after h (slice_index now at ∷ later more))) is
            ∙ ap (λ v. to_all more (with_byte (Some first) v (bytes_of (later more)))) some
            ∙ one_more (bytes_of (later more)) first value (take count now)
            ∙ ap (λ front. and_then (bytes_of (later more)) (λ rest. Ok (front ++ rest)))
            (ap (λ b. take count now ++ b ∷ []) sum ∙ sym (take_more_set now count byte (omega (arith, near, inside))));
      } where
        one_more : (r : Result (List ℕ) RdsError) (a b : ℕ) (front : List ℕ)
            → and_then (with_byte (Some a) (Some b) r) (λ rest. Ok (front ++ rest)) ≡ and_then r (λ rest. Ok ((front ++ (a * 16 + b) ∷ []) ++ rest))
        one_more (Ok bytes) a b front = ap (λ t. Ok t) (sym (append_assoc front ((a * 16 + b) ∷ []) bytes))
        one_more (Err e) a b front = refl

module _ (start : Option ℕ) (text now : List ℕ) (at count : ℕ) (high : Option ℕ) (has : HasDecoded start text now at count high) where
  pub few_decoded : at ≤ length now → count ≤ length now
  few_decoded within = omega (arith, has.order, at_most_one start, within)

  pub all_decoded : length now ≤ at → IsDecodedBy start text (take count now) high
  all_decoded end more =
      has.rest more ∙ ap (λ xs. and_then (bytes_after_of high (xs ++ more)) (λ rest. Ok (take count now ++ rest))) (drop_all text at (omega (arith, end, has.long))) where
        drop_all : (xs : List ℕ) (n : ℕ) → length xs ≤ n → drop n xs ≡ []
        drop_all xs n h = grind (arith, common_steps)

-- (an edit of must-fail/ makes a comment of this file up to here)
