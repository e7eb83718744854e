-- The even cutting is a cutting.
use Rattle.rds_pieces.proofs.Names.{common_steps, ◌≡◌, ℕ, zero, suc, ◌+◌, ◌-◌, ◌*◌, ◌<◌, ◌≤◌, List, [], ◌∷◌, ◌++◌, length, map, get_or, ◌∙◌, ap, arith, div_ceil, range_with_len, mul-le, length_push, get_or_push, get_or_append_left, length-map-range_with_len, get_or-map-range_with_len, IsCutting, pieces_of, even_places, div_ceil_times}

module _ (s n c : ℕ) where
  -- c multiples of s, then n
  abbrev places : List ℕ
  places = map (λ k. k * s) (range_with_len 0 c) ++ n ∷ []

  places_length : length places ≡ c + 1
  places_length = length_push (map (λ k. k * s) (range_with_len 0 c)) n ∙ ap (λ m. m + 1) (length-map-range_with_len (λ k. k * s) 0 c)

  inside : (k : ℕ) → k < c → get_or places k 0 ≡ k * s
  inside k h = grind (arith, common_steps, length-map-range_with_len, get_or_append_left, get_or-map-range_with_len)

  last : get_or places c 0 ≡ n
  last = get_or_push (map (λ k. k * s) (range_with_len 0 c)) n 0 c (length-map-range_with_len (λ k. k * s) 0 c)

  -- where the multiples rise and stay below n
  rises : 0 < s → (k : ℕ) → k + 1 < length places → ((k + 1) * s ≡ k * s + s) → ((c - 1) * s < n) → get_or places k 0 < get_or places (k + 1) 0
  rises some k h next below = grind (arith, common_steps, inside, last, places_length)

-- a multiple below the last place is inside
pub multiple_inside : (n s k : ℕ) → k < div_ceil n s → k * s ≤ n
multiple_inside n s k h = grind (arith, common_steps, div_ceil_times, mul-le)

pub even_is_cutting : (n pieces : ℕ) → 1 ≤ pieces → IsCutting n (even_places n pieces)
even_is_cutting n pieces h = grind (arith, common_steps, div_ceil_times, places_length, inside, last, rises)

-- a cutting ends at its last place
pub is_own_cutting : (n : ℕ) (ps : List ℕ) → IsCutting n ps → IsCutting (get_or ps (length ps - 1) 0) ps
is_own_cutting n ps h = rw h.ends h

module _ (n : ℕ) (ps : List ℕ) (cutting : IsCutting n ps) where
  -- d pieces before the end, at least d bits are left
  bits_left : (d j : ℕ) → j + d ≡ pieces_of ps → get_or ps j 0 + d ≤ n
  bits_left zero j e = grind (arith, common_steps)
  bits_left (suc d) j e = grind (arith, common_steps, bits_left d (j + 1) (omega arith))

  -- each piece has a bit and ends inside the recording
  pub piece_inside : (j : ℕ) → j < pieces_of ps → (get_or ps j 0 < get_or ps (j + 1) 0) × (get_or ps (j + 1) 0 ≤ n)
  piece_inside j h =
      let up = cutting.rising j (omega arith) in
      let rest = bits_left (pieces_of ps - (j + 1)) (j + 1) (omega arith) in
      (up, omega (arith, rest))

  -- so there are no more pieces than bits
  pub pieces_at_most : pieces_of ps ≤ n
  pieces_at_most = let all = bits_left (pieces_of ps) 0 (omega arith) in omega (arith, all)

pub range_inside : (n : ℕ) (ps : List ℕ) → IsCutting n ps → (j from to : ℕ) → j < pieces_of ps → from ≡ get_or ps j 0 → to ≡ get_or ps (j + 1) 0 → (from < to) × (to ≤ n)
range_inside n ps cutting j from to h f t = let r = piece_inside n ps cutting j h in (omega (arith, r.0, f, t), omega (arith, r.1, t))
