-- Listers that take bytes in pieces.
use Rattle.rds_live.proofs.Names.{common_steps, arith, ◌≡◌, ◌++◌, ◌∙◌, List, Result, [], ap, ap₂, append_assoc, sym, ℕ, IfOk, flat_map, flat_map-append, append-nil, IsInRange, Item, ListerOf, lister_next, PiecesJoin, completed, live_next, IsStreamDecoder, LiveOf}

-- bytes in two pieces give the same as at once
pub lists-join : PiecesJoin → (row : Item → List ℕ) (lister : ListerOf) (first second : List ℕ) → IsInRange lister.live.terms.rules → IsStreamDecoder lister.live
    → lister_next row (lister_next row lister first) second ≡ lister_next row lister (first ++ second)
lists-join join row lister first second range known =
    let (next, items) = join lister.live first second range known in
    let some : List Item = completed lister.live first in
    let more : List Item = completed (live_next lister.live first) second in
    ap₂ (λ (l : LiveOf) (xs : List ℕ). record { live = l; rows = xs }) next
    (append_assoc lister.rows (flat_map row some) (flat_map row more)
    ∙ ap (λ (xs : List ℕ). lister.rows ++ xs) (sym (flat_map-append row some more) ∙ ap (λ (xs : List Item). flat_map row xs) items))

-- no byte changes nothing
pub lists-still : (row : Item → List ℕ) (lister : ListerOf) → live_next lister.live [] ≡ lister.live → completed lister.live [] ≡ [] → lister_next row lister [] ≡ lister
lists-still row lister still none = grind (arith, common_steps, append-nil, completed)

-- of an answer that is no error
pub on-ok-both : {T E : Type 0} {P Q S : T → Type 0} (r : Result T E) → ((x : T) → P x → Q x → S x) → IfOk r P → IfOk r Q → IfOk r S
on-ok-both r more p q = grind (arith, common_steps)
