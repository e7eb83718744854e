use Rattle.rds_tool.proofs.Names.{common_steps, arith, ◌∷◌, Bor, List, [], refl, ℕ, All, codes, leb-true, IsPlain, IsShort}
use Rattle.rds_tool.proofs.totals.totals_with_names.Goals as goal

-- what holds of each of twelve holds of all
twelve : {X : Type 0} (P : X → Type 0) (a b d e f g h i j k l m : X) → P a → P b → P d → P e → P f → P g → P h → P i → P j → P k → P l → P m → All P (a ∷ b ∷ d ∷ e ∷ f ∷ g ∷ h ∷ i ∷ j ∷ k ∷ l ∷ m ∷ [])
twelve P a b d e f g h i j k l m pa pb pd pe pf pg ph pi pj pk pl pm = grind (arith, common_steps)

pub returns-clause-plain : goal.returns-clause-plain
returns-clause-plain c =
    let valid : IsPlain (codes "valid") = refl in
    let burst1 : IsPlain (codes "burst1") = refl in
    let burst2 : IsPlain (codes "burst2") = refl in
    let burst3 : IsPlain (codes "burst3") = refl in
    let burst4 : IsPlain (codes "burst4") = refl in
    let burst5 : IsPlain (codes "burst5") = refl in
    let lost : IsPlain (codes "lost") = refl in
    let bits : IsPlain (codes "bits") = refl in
    let groups : IsPlain (codes "groups") = refl in
    let complete : IsPlain (codes "complete") = refl in
    let acquired : IsPlain (codes "acquired") = refl in
    let losses : IsPlain (codes "losses") = refl in
    twelve (λ (total : Bor (List ℕ) × ℕ). IsPlain total.0.now) _ _ _ _ _ _ _ _ _ _ _ _ valid burst1 burst2 burst3 burst4 burst5 lost bits groups complete acquired losses

pub returns-clause-short : goal.returns-clause-short
returns-clause-short c =
    let valid : IsShort (codes "valid") = leb-true _ _ refl in
    let burst1 : IsShort (codes "burst1") = leb-true _ _ refl in
    let burst2 : IsShort (codes "burst2") = leb-true _ _ refl in
    let burst3 : IsShort (codes "burst3") = leb-true _ _ refl in
    let burst4 : IsShort (codes "burst4") = leb-true _ _ refl in
    let burst5 : IsShort (codes "burst5") = leb-true _ _ refl in
    let lost : IsShort (codes "lost") = leb-true _ _ refl in
    let bits : IsShort (codes "bits") = leb-true _ _ refl in
    let groups : IsShort (codes "groups") = leb-true _ _ refl in
    let complete : IsShort (codes "complete") = leb-true _ _ refl in
    let acquired : IsShort (codes "acquired") = leb-true _ _ refl in
    let losses : IsShort (codes "losses") = leb-true _ _ refl in
    twelve (λ (total : Bor (List ℕ) × ℕ). IsShort total.0.now) _ _ _ _ _ _ _ _ _ _ _ _ valid burst1 burst2 burst3 burst4 burst5 lost bits groups complete acquired losses
