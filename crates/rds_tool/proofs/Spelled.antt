-- Rows that are spelled from one number up to another.
use Rattle.rds_tool.proofs.Names.{◌+◌, ◌++◌, ◌-◌, ◌∙◌, ◌∷◌, ◌≡◌, ◌<◌, ◌≤◌, Bor, List, [], ap, ap₂, append_assoc, arith, drop, get_or, length, map, min, refl, suc, sym, take, zero, ℕ, All, AllByRecursion, concat, flat_map, join_with_byte, common_steps, flat_map-append, append-nil, drop-map, drop_more, take-append-add, take-append-drop, take_more, take_rest, All-drop, All-take, concat-append, IsShort, length-drop, length-take, slice_index_or}
use Rattle.std.proofs.Common.{drop-drop}

module _ {A : Type 0} where
  drop_past : (xs ys : List A) (n : ℕ) → length xs ≤ n → drop n (xs ++ ys) ≡ drop (n - length xs) ys
  drop_past [] ys n h = ap (λ k. drop k ys) (let same : n ≡ n - 0 = omega arith in same)
  drop_past (x ∷ xs) ys zero h = absurd (omega arith)
  drop_past (x ∷ xs) ys (suc n) h = grind (arith, common_steps, drop_past xs ys n (omega arith))

  take_past : (xs ys : List A) (n : ℕ) → length xs ≤ n → take n (xs ++ ys) ≡ xs ++ take (n - length xs) ys
  take_past [] ys n h = ap (λ k. take k ys) (let same : n ≡ n - 0 = omega arith in same)
  take_past (x ∷ xs) ys zero h = absurd (omega arith)
  take_past (x ∷ xs) ys (suc n) h = grind (arith, common_steps, take_past xs ys n (omega arith))

module _ {X Y : Type 0} (f : X → Y) where
  take-map : (n : ℕ) (xs : List X) → take n (map f xs) ≡ map f (take n xs)
  take-map zero xs = refl
  take-map (suc n) [] = refl
  take-map (suc n) (x ∷ xs) = ap (λ t. f x ∷ t) (take-map n xs)

concat-map : {X : Type 0} (f : X → List ℕ) (xs : List X) → concat (map f xs) ≡ flat_map f xs
concat-map f [] = refl
concat-map f (x ∷ xs) = ap (λ t. f x ++ t) (concat-map f xs)

mapped : {X : Type 0} (f : X → List ℕ) (xs : List X) (from n : ℕ) → concat (take n (drop from (map f xs))) ≡ flat_map f (take n (drop from xs))
mapped f xs from n = ap (λ t. concat (take n t)) (drop-map f from xs) ∙ ap concat (take-map f n (drop from xs)) ∙ concat-map f (take n (drop from xs))

-- a whole listing
pub all_spelled : {X Y : Type 0} (f : X → List ℕ) (g : Y → List ℕ) (xs : List X) (ys : List Y) → concat (map f xs ++ map g ys) ≡ flat_map f xs ++ flat_map g ys
all_spelled f g xs ys = concat-append (map f xs) (map g ys) ∙ ap₂ (λ s t. s ++ t) (concat-map f xs) (concat-map g ys)

-- the rows of two lists from one number up to another
pub two_lists : {A : Type 0} (xs ys : List A) (from to a b : ℕ) → from ≤ to → a ≡ min from (length xs) → b ≡ min to (length xs)
    → take (to - from) (drop from (xs ++ ys)) ≡ take (b - a) (drop a xs) ++ take ((to - b) - (from - a)) (drop (from - a) ys)
two_lists xs ys from to a b order p q =
    let behind = λ (h : length xs ≤ from). drop_past xs ys from h in
    let across = λ (h : length (drop from xs) ≤ to - from). take_past (drop from xs) ys (to - from) h in
    grind (arith, common_steps, p, q, behind, across)

pub spelled : {X Y : Type 0} (f : X → List ℕ) (g : Y → List ℕ) (xs : List X) (ys : List Y) (from to a b : ℕ) → from ≤ to → a ≡ min from (length xs) → b ≡ min to (length xs)
    → concat (take (to - from) (drop from (map f xs ++ map g ys))) ≡ flat_map f (take (b - a) (drop a xs)) ++ flat_map g (take ((to - b) - (from - a)) (drop (from - a) ys))
spelled f g xs ys from to a b order p q =
    let n : length (map f xs) ≡ length xs = grind (arith, common_steps) in
    ap concat (two_lists (map f xs) (map g ys) from to a b order (p ∙ ap (min from) (sym n)) (q ∙ ap (min to) (sym n)))
    ∙ concat-append (take (b - a) (drop a (map f xs))) (take ((to - b) - (from - a)) (drop (from - a) (map g ys)))
    ∙ ap₂ (λ s t. s ++ t) (mapped f xs a (b - a)) (mapped g ys (from - a) ((to - b) - (from - a)))

-- ---- a row that is joined

-- some of a list that is changed element by element
pub some_changed : {X Y : Type 0} (f : X → Y) (all : List X) (changed : List Y) (from n : ℕ) → map f all ≡ changed → map f (take n (drop from all)) ≡ take n (drop from changed)
some_changed f all changed from n e = grind (arith, common_steps, take-map, drop-map)

-- what holds of each holds of each of some
pub each_of_some : {X : Type 0} (P : X → Type 0) (all : List X) (from n : ℕ) → All P all → All P (take n (drop from all))
each_of_some P all from n each = All-take P n (drop from all) (All-drop P from all each)

-- the last field after the others, each of which has a comma after it
pub joined_last : (fs : List (Bor (List ℕ))) (n : ℕ) (d : Bor (List ℕ)) → length fs ≡ suc n
    → join_with_byte 44 (map (λ f. f.now) fs) ≡ flat_map (λ f. f.now ++ 44 ∷ []) (take n fs) ++ (get_or fs n d).now
joined_last [] n d h = absurd (omega arith)
joined_last (f ∷ []) zero d h = refl
joined_last (f ∷ []) (suc n) d h = absurd (omega arith)
joined_last (f ∷ g ∷ fs) zero d h = absurd (omega arith)
joined_last (f ∷ g ∷ fs) (suc n) d h = grind (arith, common_steps, append_assoc, joined_last (g ∷ fs) n d (omega arith))

pub short_at : (fs : List (Bor (List ℕ))) (i : ℕ) (d : Bor (List ℕ)) → AllByRecursion IsShort (map (λ f. f.now) fs) → i < length fs → length ((get_or fs i d).now) ≤ 20
short_at [] i d h lt = absurd (omega arith)
short_at (f ∷ fs) zero d h lt = h.0
short_at (f ∷ fs) (suc i) d h lt = short_at fs i d h.1 (omega arith)

-- one field more, and a comma after it
fields_more : (fs : List (Bor (List ℕ))) (i : ℕ) (d : Bor (List ℕ)) (text : List ℕ) → i < length fs → text ≡ flat_map (λ f. f.now ++ 44 ∷ []) (take i fs)
    → (text ++ (get_or fs i d).now) ++ 44 ∷ [] ≡ flat_map (λ f. f.now ++ 44 ∷ []) (take (i + 1) fs)
fields_more fs i d text lt e = grind (arith, common_steps, append_assoc, take_more, flat_map-append, append-nil)

-- the same after other text
pub fields_after : (fs : List (Bor (List ℕ))) (i : ℕ) (d : Bor (List ℕ)) (old text : List ℕ) → i < length fs → text ≡ old ++ flat_map (λ f. f.now ++ 44 ∷ []) (take i fs)
    → (text ++ (get_or fs i d).now) ++ 44 ∷ [] ≡ old ++ flat_map (λ f. f.now ++ 44 ∷ []) (take (i + 1) fs)
fields_after fs i d old text lt e = grind (arith, common_steps, append_assoc, fields_more)

-- the bytes after the first ones
pub bytes_after : (before all new : List ℕ) → all ≡ before ++ new → take (length all - length before) (drop (length before) all) ≡ new
bytes_after before all new e = grind (arith, common_steps, e)

-- the rows of the first of some items, and then those of the rest
pub rows_more : {X : Type 0} (f : X → List ℕ) (old new page : List ℕ) (left : List X) (count : ℕ) → new ≡ old ++ page → page ≡ flat_map f (take count left)
    → new ++ flat_map f (take (length left - count) (drop count left)) ≡ old ++ flat_map f left
rows_more f old new page left count added first =
    ap (λ r. new ++ flat_map f r) (take_rest left count)
    ∙ ap (λ t. t ++ flat_map f (drop count left)) (added ∙ ap (λ p. old ++ p) first)
    ∙ append_assoc old (flat_map f (take count left)) (flat_map f (drop count left))
    ∙ ap (λ t. old ++ t) (sym (flat_map-append f (take count left) (drop count left)) ∙ ap (flat_map f) (take-append-drop count left))

take_next : {X : Type 0} (m n : ℕ) (ys : List X) → m ≤ length ys → take (m + n) ys ≡ take m ys ++ take n (drop m ys)
take_next m n ys h =
    let long : m ≡ length (take m ys) = omega (arith, h, length-take m ys) in
    ap (take (m + n)) (sym (take-append-drop m ys)) ∙ ap (λ (k : ℕ). take (k + n) (take m ys ++ drop m ys)) long ∙ take-append-add (take m ys) (drop m ys) n

-- the rows of some items, and then those of the next
pub rows_next : {X : Type 0} (f : X → List ℕ) (old new page : List ℕ) (xs : List X) (from done count : ℕ) → from ≤ done → done ≤ length xs
    → new ≡ old ++ flat_map f (take (done - from) (drop from xs)) → page ≡ flat_map f (take count (drop done xs))
    → new ++ page ≡ old ++ flat_map f (take (done + count - from) (drop from xs))
rows_next f old new page xs from done count order within some next =
    let ys = drop from xs in
    let m : ℕ = done - from in
    let at : drop done xs ≡ drop m ys = ap (λ (k : ℕ). drop k xs) (let sum : done ≡ from + m = omega (arith, order) in sum) ∙ sym (drop-drop m from xs) in
    let sum : m + count ≡ done + count - from = omega (arith, order) in
    ap₂ (λ (s t : List ℕ). s ++ t) some (next ∙ ap (λ zs. flat_map f (take count zs)) at)
    ∙ append_assoc old (flat_map f (take m ys)) (flat_map f (take count (drop m ys)))
    ∙ ap (λ t. old ++ t)
    (sym (flat_map-append f (take m ys) (take count (drop m ys))) ∙ ap (flat_map f) (sym (take_next m count ys (omega (arith, within, order, length-drop from xs)))) ∙ ap (λ (k : ℕ). flat_map f (take k ys)) sum)

-- the row of an item more
pub row_next : {X : Type 0} (f : X → List ℕ) (text : List ℕ) (xs : List X) (from at : ℕ) (x d : X) → from ≤ at → at < length xs
    → text ≡ flat_map f (take (at - from) (drop from xs)) → x ≡ get_or xs at d → text ++ f x ≡ flat_map f (take (at + 1 - from) (drop from xs))
row_next f text xs from at x d order within is same =
    let one : take 1 (drop at xs) ≡ x ∷ [] = ap (take 1) (drop_more xs at d within) ∙ ap (λ y. y ∷ []) (sym same) in
    rows_next f [] text (f x) xs from at 1 order (omega (arith, within)) is (sym (append-nil (f x)) ∙ ap (flat_map f) (sym one))

-- the steps of functions that need no answer
pub ruleset row_steps = (common_steps, append_assoc, rows_more, take_rest, length-drop, spelled)

-- the steps of functions that need no answer
pub ruleset field_steps = (common_steps, append-nil, slice_index_or, short_at)
