-- Inner cuts are a cutting with the two ends of the recording, and nothing else is.
use Rattle.rds_tool.proofs.Names.{common_steps, ◌&&◌, ◌++◌, ◌+◌, ◌-◌, ◌<◌, ◌∷◌, ◌≡◌, ℕ, Bool, List, [], arith, false, get_or, length, refl, subst, suc, true, zero, slice_index, lt-ltb, ltb-true, get_or_push, length_push, IsCutting, are_inner, places_at, rise_between}
use Rattle.std.specs.List.Sorted.{IsStrictlyIncreasing}

pub and_both : (a b : Bool) → (a && b) ≡ true → (a ≡ true) × (b ≡ true)
and_both a b h = grind (arith, common_steps)

pub both_and : (a b : Bool) → a ≡ true → b ≡ true → (a && b) ≡ true
both_and a b p q = grind (arith, common_steps)

-- ---- lists that rise

alone : (x : ℕ) → IsStrictlyIncreasing (x ∷ [])
alone x k b = absurd (omega arith)

after_first : (x : ℕ) (xs : List ℕ) → IsStrictlyIncreasing (x ∷ xs) → IsStrictlyIncreasing xs
after_first x xs h k b =
    let e : suc k + 1 ≡ suc (k + 1) = omega arith in
    subst (λ (m : ℕ). get_or xs k 0 < get_or (x ∷ xs) m 0) e (h (suc k) (omega arith))

with_first : (x y : ℕ) (ys : List ℕ) → x < y → IsStrictlyIncreasing (y ∷ ys) → IsStrictlyIncreasing (x ∷ y ∷ ys)
with_first x y ys below h it b = grind (arith, common_steps)

rising : (low : ℕ) (cuts : List ℕ) (high : ℕ) → rise_between low cuts high ≡ true → IsStrictlyIncreasing (low ∷ cuts ++ high ∷ [])
rising low [] high h = with_first low high [] (ltb-true low high h) (alone high)
rising low (cut ∷ cuts) high h = grind (arith, common_steps, and_both, with_first, ltb-true, rising cut cuts high)

rises : (low : ℕ) (cuts : List ℕ) (high : ℕ) → IsStrictlyIncreasing (low ∷ cuts ++ high ∷ []) → rise_between low cuts high ≡ true
rises low [] high h = lt-ltb low high (h 0 (omega arith))
rises low (cut ∷ cuts) high h =
    both_and _ _ (lt-ltb low cut (h 0 (omega arith))) (rises cut cuts high (after_first low (cut ∷ cuts ++ high ∷ []) h))

-- ---- cuttings

last_is : (xs : List ℕ) (n : ℕ) → slice_index (xs ++ n ∷ []) (length (xs ++ n ∷ []) - 1) ≡ n
last_is xs n = let l = length_push xs n in get_or_push xs n 0 (length (xs ++ n ∷ []) - 1) (omega (arith, l))

pub inner_cut : (n : ℕ) (cuts : List ℕ) → are_inner n cuts ≡ true → IsCutting n (places_at n cuts)
inner_cut zero [] h = record { some = omega arith; begins = refl; ends = refl; rising = alone 0 }
inner_cut zero (cut ∷ cuts) h = cc h
inner_cut (suc n) cuts h = grind (arith, common_steps, last_is, rising)

-- more than one place can't rise strictly to 0
not_to_none : (cut : ℕ) (cuts : List ℕ) → IsCutting 0 (0 ∷ cut ∷ cuts) → ⊥
not_to_none cut cuts h =
    let places : List ℕ = 0 ∷ cut ∷ cuts in
    let e : length cuts + 1 ≡ length places - 1 = omega arith in
    let g : get_or places (length cuts) 0 < get_or places (length places - 1) 0 =
    subst (λ (m : ℕ). get_or places (length cuts) 0 < get_or places m 0) e (h.rising (length cuts) (omega arith)) in
    let ends : get_or places (length places - 1) 0 ≡ 0 = h.ends in
    omega (arith, g, ends)

pub cut_inner : (n : ℕ) (cuts : List ℕ) → IsCutting n (places_at n cuts) → are_inner n cuts ≡ true
cut_inner zero [] h = refl
cut_inner zero (cut ∷ cuts) h = absurd (not_to_none cut cuts h)
cut_inner (suc n) cuts h = rises 0 cuts (suc n) h.rising

decided : (b : Bool) → (b ≡ true → ⊥) → b ≡ false
decided b refuted = grind (arith, common_steps)

-- what is no cutting has no inner cuts
pub not_inner : (n : ℕ) (cuts : List ℕ) → (IsCutting n (places_at n cuts) → ⊥) → are_inner n cuts ≡ false
not_inner n cuts refuted = decided (are_inner n cuts) (λ h. refuted (inner_cut n cuts h))
