use Rattle.rds_live.proofs.Names.{◌≡◌, ◌≤◌, ◌+◌, ◌-◌, ◌∷◌, ◌++◌, ℕ, List, [], append_assoc, length, map, refl, ap, sym, ◌∙◌, arith, length-append, map-range_with_len_more, range_with_len, spare}
use Rattle.rds_live.proofs.gaps.fill_up.Goals as goal

-- one more
one-more : (old gaps new : List (ℕ × ℕ)) (number : ℕ) (gap : ℕ × ℕ) → length old ≤ number → gaps ≡ old ++ map spare (range_with_len (length old) (number - length old))
    → new ≡ gaps ++ gap ∷ [] → gap ≡ spare number → new ≡ old ++ map spare (range_with_len (length old) (number + 1 - length old))
one-more old gaps new number gap from_on so_far is behind =
    let k : ℕ = length old in
    let count : number - k + 1 ≡ number + 1 - k = omega (arith, from_on) in
    is ∙ ap (λ (xs : List (ℕ × ℕ)). xs ++ gap ∷ []) so_far
    ∙ append_assoc old (map spare (range_with_len k (number - k))) (gap ∷ [])
    ∙ ap (λ (x : ℕ × ℕ). old ++ (map spare (range_with_len k (number - k)) ++ x ∷ [])) behind
    ∙ ap (λ (xs : List (ℕ × ℕ)). old ++ xs) (sym (map-range_with_len_more spare k (number - k) number (omega (arith, from_on))))
    ∙ ap (λ (n : ℕ). old ++ map spare (range_with_len k n)) count

pub loop-number-preserved : goal.loop-number-preserved
loop-number-preserved c =
    let loop = c.loop-number in
    record {
      so_far = one-more c.args.gaps.now.items loop.gaps.items c.push_reserved.new.self.items loop.number _ loop.invariant.from_on loop.invariant.so_far c.push_reserved.ensures.items refl;
      from_on = omega (arith, loop.invariant.from_on);
      within = omega (arith, c.loop-number-test.true);
      count = omega (arith, ap (λ (xs : List (ℕ × ℕ)). length xs) c.push_reserved.ensures.items, length-append loop.gaps.items (spare loop.number ∷ []), loop.invariant.count);
      room = c.push_reserved.ensures.capacity ∙ loop.invariant.room;
    }
