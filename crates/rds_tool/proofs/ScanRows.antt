-- The rows of places are those of the valid windows among them.
use Rattle.rds_tool.proofs.Names.{common_steps, ◌+◌, ◌++◌, ◌-◌, ◌∙◌, ◌∷◌, ◌≡◌, ◌<◌, ◌≤◌, List, None, Option, Some, [], ap, ap₂, arith, drop, map, option_map, refl, suc, sym, take, zero, ℕ, concat, cons_option, filter_map, flat_map, range_with_len, append-nil, concat-append, map-range_with_len_more, take-map-range_with_len, Offset, Signal, length_of, offset_at, valid_at, scan_text, window_row, row_where, rows_of_places}

module _ {X : Type 0} (f : ℕ → X) where
  drop-map-range : (a n k : ℕ) → k ≤ n → drop k (map f (range_with_len a n)) ≡ map f (range_with_len (a + k) (n - k))
  drop-map-range a n zero le = grind (arith, common_steps)
  drop-map-range a zero (suc k) le = absurd (omega arith)
  drop-map-range a (suc n) (suc k) le = grind (arith, common_steps, drop-map-range (a + 1) n k (omega arith))

  -- some in the middle
  part : (n from to : ℕ) → from ≤ to → to ≤ n → take (to - from) (drop from (map f (range_with_len 0 n))) ≡ map f (range_with_len from (to - from))
  part n from to order inside =
      let start : 0 + from ≡ from = omega arith in
      ap (take (to - from)) (drop-map-range 0 n from (omega (arith, order, inside)))
      ∙ take-map-range_with_len f (0 + from) (n - from) (to - from) (omega (arith, order, inside))
      ∙ ap (λ i. map f (range_with_len i (to - from))) start

one_spelled : (o : Option (ℕ × Offset)) (windows : List (ℕ × Offset)) → row_where o ++ flat_map window_row windows ≡ flat_map window_row (cons_option o windows)
one_spelled o windows = grind (arith, common_steps)

module _ (b : Signal) where
  places_spelled : (places : List ℕ) → concat (map (λ i. row_where (valid_at b i)) places) ≡ flat_map window_row (filter_map (valid_at b) places)
  places_spelled [] = refl
  places_spelled (p ∷ places) = grind (arith, common_steps, one_spelled, places_spelled places)

  -- all of them
  pub scan_spelled : concat (rows_of_places b) ≡ scan_text b
  scan_spelled = grind (arith, common_steps, places_spelled)

  -- the rows of the places from one to before another
  abbrev pub so_far : ℕ → ℕ → List ℕ
  so_far from p = concat (take (p - from) (drop from (rows_of_places b)))

  -- one place more
  pub place_more : (from p : ℕ) → from ≤ p → p < length_of b
      → concat (take (p + 1 - from) (drop from (rows_of_places b))) ≡ concat (take (p - from) (drop from (rows_of_places b))) ++ row_where (valid_at b p)
  place_more from p order inside =
      let f : ℕ → List ℕ = λ i. row_where (valid_at b i) in
      let count : p + 1 - from ≡ p - from + 1 = omega (arith, order) in
      let last : from + (p - from) ≡ p = omega (arith, order) in
      ap concat (part f (length_of b) from (p + 1) (omega (arith, order)) (omega (arith, inside))
      ∙ ap (λ n. map f (range_with_len from n)) count ∙ map-range_with_len_more f from (p - from) p last)
      ∙ concat-append (map f (range_with_len from (p - from))) (f p ∷ [])
      ∙ ap₂ (λ s t. s ++ t) (ap concat (sym (part f (length_of b) from p order (omega (arith, inside))))) (append-nil (f p))

  -- a valid window after them
  pub found_more : (from p : ℕ) (o : Offset) → from ≤ p → p < length_of b → offset_at b p ≡ Some o → so_far from (p + 1) ≡ so_far from p ++ window_row (p, o)
  found_more from p o order inside is = grind (arith, common_steps, place_more)

  -- places after them at which no window is valid
  pub none_more : (from p n : ℕ) → from ≤ p → p + n ≤ length_of b → ((i : ℕ) → p ≤ i → i < p + n → offset_at b i ≡ None) → so_far from (p + n) ≡ so_far from p
  none_more from p zero order inside none = let same : p + 0 ≡ p = omega arith in ap (so_far from) same
  none_more from p (suc n) order inside none =
      let last : p + suc n ≡ p + n + 1 = omega arith in
      ap (so_far from) last ∙ place_more from (p + n) (omega arith) (omega (arith, inside))
      ∙ ap (λ w. so_far from (p + n) ++ row_where (option_map (λ x. (p + n, x)) w)) (none (p + n) (omega arith) (omega arith))
      ∙ append-nil (so_far from (p + n))
      ∙ none_more from p n order (omega (arith, inside)) (λ i low high. none i low (omega (arith, high)))
