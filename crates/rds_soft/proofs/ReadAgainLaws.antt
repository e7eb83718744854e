-- What the functions of `ReadAgain` compute is what the rule allows.
use Rattle.rds_soft.proofs.Names.{common_steps, ◌≡◌, ℕ, zero, suc, ◌+◌, ◌/◌, ◌^◌, ◌<◌, ◌≤◌, xor_lt, List, refl, sym, ◌∙◌, ◌≢◌, number, arith, bit_xor, Some, None, nat_lt, if◌then◌else◌, ltb-true, ltb-false, eqb-true, eqb-false, cond_both, Offset, A, B, C, Cx, D, Wanted, OnlyC, OnlyCx, Either, IsLinear, rem, word, IsCorrection, turn_to, lighter, turn_third, turn_of, within, correction, soft_reading, SymbolsAreReadSo}
use Rattle.rds_soft.proofs.NearestLemmas.{only_one, nearer_C, nearer_Cx, is_nearest, none_past_top, none_beside, only, only_C, only_Cx, allowed, AreNearest, TurnTo}
use Rattle.rds_soft.{specs.declared.correction.Correction.Correction, specs.declared.nearest.Turn.Turn, proofs.FlipLemmas.are_lightest}

-- ---- the correction

abbrev Are : ℕ → ℕ → Wanted → List ℕ → Turn → Type 0
Are w x wanted cs t = AreNearest w x wanted cs t.offset t.flips t.weight t.others

abbrev IsTurn : ℕ → List ℕ → Turn → Type 0
IsTurn w cs t = TurnTo w cs t.offset t.flips t.weight t.others

turn_is : IsLinear → (w : ℕ) (cs : List ℕ) (o : Offset) → IsTurn w cs (turn_to w cs o)
turn_is linear w cs o = are_lightest linear cs (bit_xor (rem w) (word o))

lighter_is : IsLinear → (w : ℕ) (cs : List ℕ) (t u : Turn) → t.offset ≡ C → u.offset ≡ Cx → IsTurn w cs t → IsTurn w cs u
    → Are w 3 Either cs (lighter t u)
lighter_is linear w cs t u t_is u_is h k = grind (arith, common_steps, cond_both, nearer_Cx, ltb-true, nearer_C, ltb-false)

alone_is : IsLinear → (w x : ℕ) (wanted : Wanted) (cs : List ℕ) (o : Offset) → number o ≡ x → number o ≢ 3 → Are w x wanted cs (turn_to w cs o)
alone_is linear w x wanted cs o own apart =
    only_one linear w x wanted cs o _ _ _ own (allowed wanted o apart) (λ p other _. only o p (other ∙ sym own) apart) (turn_is linear w cs o)

third_is : IsLinear → (w : ℕ) (wanted : Wanted) (cs : List ℕ) → Are w 3 wanted cs (turn_third w wanted cs)
third_is linear w OnlyC cs = only_one linear w 3 OnlyC cs C _ _ _ refl refl only_C (turn_is linear w cs C)
third_is linear w OnlyCx cs = only_one linear w 3 OnlyCx cs Cx _ _ _ refl refl only_Cx (turn_is linear w cs Cx)
third_is linear w Either cs =
    lighter_is linear w cs (turn_to w cs C) (turn_to w cs Cx) refl refl (turn_is linear w cs C) (turn_is linear w cs Cx)

turn_of_is : IsLinear → (w x : ℕ) (wanted : Wanted) (cs : List ℕ) → 1 ≤ x → x ≤ 4 → Are w x wanted cs (turn_of w x wanted cs)
turn_of_is linear w zero wanted cs low high = absurd (omega (arith, low))
turn_of_is linear w (suc zero) wanted cs low high = alone_is linear w 1 wanted cs A refl (λ same. absurd (omega (arith, same)))
turn_of_is linear w (suc (suc zero)) wanted cs low high = alone_is linear w 2 wanted cs B refl (λ same. absurd (omega (arith, same)))
turn_of_is linear w (suc (suc (suc zero))) wanted cs low high = third_is linear w wanted cs
turn_of_is linear w (suc (suc (suc (suc zero)))) wanted cs low high = alone_is linear w 4 wanted cs D refl (λ same. absurd (omega (arith, same)))
turn_of_is linear w (suc (suc (suc (suc (suc x))))) wanted cs low high = absurd (omega (arith, high))

within_is : (w x : ℕ) (wanted : Wanted) (cs : List ℕ) (margin : ℕ) (t : Turn) → margin ≤ 127 → Are w x wanted cs t
    → IsCorrection w x wanted cs margin (within t margin)
within_is w x wanted cs margin t few h =
    let found : Correction = record { offset = t.offset; flips = t.flips } in
    cond_both (nat_lt 127 t.weight) None (if nat_lt t.others (t.weight + margin) then None else Some found)
    (IsCorrection w x wanted cs margin)
    (λ far. none_past_top w x wanted cs margin t.offset t.flips t.weight t.others h (ltb-true 127 t.weight far))
    (λ near. cond_both (nat_lt t.others (t.weight + margin)) None (Some found) (IsCorrection w x wanted cs margin)
    (λ close. none_beside w x wanted cs margin t.offset t.flips t.weight t.others h few (ltb-false 127 t.weight near)
    (ltb-true t.others (t.weight + margin) close))
    (λ apart. is_nearest w x wanted cs margin t.offset t.flips t.weight t.others h (ltb-false 127 t.weight near)
    (ltb-false t.others (t.weight + margin) apart)))

pub correction_is : IsLinear → (w x : ℕ) (wanted : Wanted) (cs : List ℕ) (margin : ℕ) → 1 ≤ x → x ≤ 4 → margin ≤ 127
    → IsCorrection w x wanted cs margin (correction w x wanted cs margin)
unfolding correction
correction_is linear w x wanted cs margin low high few =
    within_is w x wanted cs margin (turn_of w x wanted cs) few (turn_of_is linear w x wanted cs low high)

-- ---- readings

pub inverted : (w mask : ℕ) → w < 2 ^ 26 → mask < 2 ^ 26 → bit_xor w mask / 2 ^ 10 < 2 ^ 16
inverted w mask window block = omega (arith, xor_lt 26 w mask window block)

pub symbols_are_read_so : IsLinear → SymbolsAreReadSo
unfolding soft_reading
symbols_are_read_so linear symbols x wanted margin low high few = grind (arith, common_steps, cond_both, eqb-true, eqb-false, correction_is)
