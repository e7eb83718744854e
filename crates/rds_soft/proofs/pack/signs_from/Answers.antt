use Rattle.rds_code.proofs.Membership.{each_below}
use Rattle.rds_soft.proofs.Names.{◌≡◌, ℕ, ◌+◌, ◌-◌, ◌%◌, ◌<◌, ◌++◌, List, Bool, false, cond, drop, length, length-drop, length-take, ltb, get_or, get_or-chunk, take, map, replicate, refl, ap, ◌∙◌, arith, w8, bit_at, pick_l, zip2, get_or_append_left, bit_mask_l, bitmask_splat}
use Rattle.rds_soft.proofs.PackLemmas.{last_first, sign_by_test}
use Rattle.rds_soft.proofs.pack.signs_from.Goals as goal

abbrev less_one : ℕ → ℕ → ℕ
less_one a b = (a + (256 - b)) % 256

abbrev is_up : ℕ → Bool
is_up x = ltb x 127

-- the lanes that are compared
abbrev lanes : List ℕ → List ℕ
lanes xs = zip2 less_one (pick_l 0 (xs ++ xs) last_first) (replicate 16 1)

lane : (xs : List ℕ) (k : ℕ) → k < 16 → get_or (map is_up (lanes xs)) (15 - k) false ≡ ltb ((get_or (xs ++ xs) k 0 + 255) % 256) 127
lane xs =
    each_below (λ (k : ℕ). get_or (map is_up (lanes xs)) (15 - k) false ≡ ltb ((get_or (xs ++ xs) k 0 + 255) % 256) 127) 16 (refl, (refl, (refl, (refl, (refl, (refl, (refl, (refl, (refl, (refl, (refl, (refl, (refl, (refl, (refl, (refl, tt))))))))))))))))

pub returns : goal.returns
returns c k less =
    let from : ℕ = c.args.from in
    let all : List ℕ = c.args.symbols.now in
    let xs : List ℕ = take 16 (drop from all) in
    let at : get_or xs k 0 ≡ get_or all (from + k) 0 = get_or-chunk from 16 all k 0 less in
    let long : length xs ≡ 16 = omega (arith, c.requires, length-take 16 (drop from all), length-drop from all) in
    ap (λ (n : ℕ). bit_at n (15 - k)) (bitmask_splat w8 ltb (lanes xs) 16 127 refl (omega arith))
    ∙ bit_mask_l (map is_up (lanes xs)) (15 - k)
    ∙ ap (λ (b : Bool). cond {A = ℕ} b 1 0) (lane xs k less)
    ∙ ap (λ (x : ℕ). cond {A = ℕ} (ltb ((x + 255) % 256) 127) 1 0) (get_or_append_left xs xs 0 k (omega (arith, less, long)) ∙ at)
    ∙ sign_by_test (get_or all (from + k) 0) (c.type_inv.symbols (from + k)).fits
