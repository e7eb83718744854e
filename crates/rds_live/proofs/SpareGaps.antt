-- The spare gaps of a room, which stay where no others are put in their place.
use Rattle.rds_live.proofs.Names.{common_steps, ◌≡◌, ℕ, ◌+◌, ◌-◌, ◌≤◌, List, ◌++◌, append_assoc, drop, length, map, sym, ap, ap₂, ◌∙◌, arith, drop-append_seam, range_with_len, drop-drop, length-append, take-append-drop, length-map-range_with_len, take-map-range_with_len, AreSpareFrom, filled_up, spare}
use Rattle.rds_live.proofs.{GapParts.length-filled-up, Parts.drop-table}

-- from the number of these on there are only spare gaps
pub spare-behind : (gaps found : List (ℕ × ℕ)) (slots : ℕ) → length found ≤ slots → gaps ≡ filled_up found slots → AreSpareFrom (length found) gaps
spare-behind gaps found slots fits is = grind (arith, common_steps, length-filled-up, drop-append_seam)

-- where those that are put in the place of the first ones reach as far as no spare gap stood, the others follow
pub filled-on : (old found : List (ℕ × ℕ)) (used : ℕ) → used ≤ length old → length found ≤ length old → AreSpareFrom used old
    → filled_up found used ++ drop (length (filled_up found used)) old ≡ filled_up found (length old)
filled-on old found used few fits spare_are =
    let k = length found in
    let n : ℕ = used - k in
    let rest = length old - k in
    let first = map spare (range_with_len k n) in
    let put : ℕ = length (filled_up found used) in
    let reach : put ≡ k + n = omega (arith, length-append found first, length-map-range_with_len spare k n) in
    let more : ℕ = put - used in
    let place : put ≡ used + more = omega (arith, reach) in
    let from : used + more ≡ k + n = omega (arith, reach) in
    let left : length old - used - more ≡ rest - n = omega (arith, reach, few, fits) in
    let others : drop put old ≡ map spare (range_with_len (k + n) (rest - n)) =
    ap (λ (m : ℕ). drop m old) place ∙ sym (drop-drop more used old) ∙ ap (λ (gs : List (ℕ × ℕ)). drop more gs) spare_are
    ∙ drop-table spare used (length old - used) more ∙ ap₂ (λ (a b : ℕ). map spare (range_with_len a b)) from left in
    let joined : first ++ map spare (range_with_len (k + n) (rest - n)) ≡ map spare (range_with_len k rest) =
    ap₂ (λ (xs ys : List (ℕ × ℕ)). xs ++ ys) (sym (take-map-range_with_len spare k rest n (omega (arith, few)))) (sym (drop-table spare k rest n))
    ∙ take-append-drop n (map spare (range_with_len k rest)) in
    append_assoc found first (drop put old) ∙ ap (λ (gs : List (ℕ × ℕ)). found ++ gs) (ap (λ (gs : List (ℕ × ℕ)). first ++ gs) others ∙ joined)
