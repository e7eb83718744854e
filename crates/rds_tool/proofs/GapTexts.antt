-- Gaps that texts spell: each place, and one gap after the other.
use Rattle.rds_tool.proofs.Names.{common_steps, ◌+◌, ◌++◌, ◌<◌, ◌≤◌, ◌^◌, ◌&&◌, ◌∙◌, ◌∷◌, ◌≡◌, Bor, List, None, Result, Ok, Err, true, false, arith, Option, Some, [], ap, append_assoc, drop, get_or, length, map, refl, ℕ, is_ascii_digit, list_all, OkIff, result_ok, all_ascii_digits, ParsesUnsigned, digits_value, nat_tests, append-nil, drop_all, drop_more, IsNumeralModel, digits_value_short, numerals_by_value, parse_digits, tells_all_ascii_digits, and_gaps, each_gap, gap_of, is_place, place_of}

-- ---- places

pub all_digits : (text : List ℕ) → list_all is_ascii_digit text ≡ all_ascii_digits text
all_digits [] = refl
all_digits (c ∷ cs) = ap (λ b. is_ascii_digit c && b) (all_digits cs)

-- digits in std's words
own : IsNumeralModel (λ (ds : List ℕ). all_ascii_digits ds ≡ true) (digits_value 10)
own = numerals_by_value (λ (ds : List ℕ). all_ascii_digits ds ≡ true) tells_all_ascii_digits

-- twelve digits at most, as std reads them
module _ {E : Type 0} (text : List ℕ) (few : length text ≤ 12) (digits : all_ascii_digits text ≡ true) where
  read_as : (r : Result ℕ E) → OkIff r ((0 < length text) × (digits_value 10 text < 2 ^ 64)) (digits_value 10 text) → result_ok r ≡ place_of text
  read_as (Ok n) (some, is) = grind (arith, common_steps, is_place, nat_tests)
  read_as (Err e) none =
      let small : digits_value 10 text < 10 ^ 12 = digits_value_short own text 12 digits few in
      let unread : 0 < length text → ⊥ = λ some. none (some, omega (arith, small)) in
      let empty : length text ≡ 0 = omega (arith, unread) in
      let no_place : is_place text ≡ false = grind (arith, nat_tests) in
      rw no_place refl

  pub place_read : (r : Result ℕ E) → ParsesUnsigned 64 10 text r → result_ok r ≡ place_of text
  place_read r is = grind (arith, common_steps, read_as, parse_digits, own)

-- ---- gaps

-- the gaps so far, and then those of the texts that are left
abbrev pub with_rest : List (ℕ × ℕ) → Option (List (ℕ × ℕ)) → Option (List (ℕ × ℕ))
with_rest gaps None = None
with_rest gaps (Some others) = Some (gaps ++ others)

one_more : (gaps : List (ℕ × ℕ)) (gap : ℕ × ℕ) (rest : Option (List (ℕ × ℕ))) → with_rest gaps (and_gaps (Some gap) rest) ≡ with_rest (gaps ++ gap ∷ []) rest
one_more gaps gap rest = grind (arith, common_steps, append_assoc)

module _ (texts : List (Bor (List ℕ))) (i : ℕ) (gaps : List (ℕ × ℕ))
    (so_far : each_gap (map (λ text. text.now) texts) ≡ with_rest gaps (each_gap (map (λ text. text.now) (drop i texts)))) where
  -- if no text is left, they are all
  pub gaps_whole : length texts ≤ i → Some gaps ≡ each_gap (map (λ text. text.now) texts)
  gaps_whole none = grind (arith, common_steps, drop_all, append-nil)

  next : (d : Bor (List ℕ)) → i < length texts
      → each_gap (map (λ text. text.now) texts) ≡ with_rest gaps (and_gaps (gap_of (get_or texts i d).now) (each_gap (map (λ text. text.now) (drop (i + 1) texts))))
  next d some = so_far ∙ ap (λ (rest : List (Bor (List ℕ))). with_rest gaps (each_gap (map (λ text. text.now) rest))) (drop_more texts i d some)

  -- a text that spells none
  pub gaps_none : (d : Bor (List ℕ)) → i < length texts → gap_of (get_or texts i d).now ≡ None → None ≡ each_gap (map (λ text. text.now) texts)
  gaps_none d some none = grind (arith, common_steps, next)

  -- a text that spells one more
  pub gaps_more : (d : Bor (List ℕ)) (gap : ℕ × ℕ) → i < length texts → gap_of (get_or texts i d).now ≡ Some gap
      → each_gap (map (λ text. text.now) texts) ≡ with_rest (gaps ++ gap ∷ []) (each_gap (map (λ text. text.now) (drop (i + 1) texts)))
  gaps_more d gap some one = grind (arith, common_steps, next, one_more)

-- the steps of functions that need no answer
pub ruleset place_steps = (common_steps, nat_tests, place_read)
