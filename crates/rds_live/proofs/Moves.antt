-- Elements of a list that are written one by one, in their place.
use Rattle.rds_live.proofs.Names.{common_steps, ◌≡◌, ◌+◌, ◌<◌, ℕ, List, arith, drop, get_or, length, map, set, take, take-set_at, take_at_read, drop-drop, drop-set-lt, get_or-drop, map-append}

-- one more is changed after those before it
pub one-changed : {A B : Type 0} (f : A → B) (old : List A) (now : List B) (i : ℕ) (none : A) → i < length old → i < length now
    → take i now ≡ map f (take i old) → take (i + 1) (set now i (f (get_or old i none))) ≡ map f (take (i + 1) old)
one-changed f old now i none within fits before = grind (arith, common_steps, take-set_at, take_at_read, map-append, set)

-- the elements after it are as they were
pub still-left : {A : Type 0} (old now : List A) (i : ℕ) (y : A) → drop i now ≡ drop i old → drop (i + 1) (set now i y) ≡ drop (i + 1) old
still-left old now i y left = grind (arith, common_steps, drop-set-lt, drop-drop, set)

-- and so is the element that is read of it
pub same-read : {A : Type 0} (old now : List A) (i : ℕ) (none : A) → drop i now ≡ drop i old → get_or now i none ≡ get_or old i none
same-read old now i none left = grind (arith, common_steps, get_or-drop)
