-- Lists of numbers, by a test of membership that computes.
use Rattle.rds_code.proofs.Names.{common_steps, ◌≡◌, ◌≢◌, ◌⊎◌, ℕ, zero, suc, ◌<◌, List, [], ◌∷◌, ◌++◌, length, get_or, Bool, true, false, cond, map, refl, sym, ap, ◌∙◌, arith, inl, inr, eqb, filter, Contains, AllPairs, cases_Bool, eq-eqb, cases_eq, ne_eqb, ⊤, Contains-append_left, Contains-append_right, Contains-append_cases}

-- whether x is among the numbers
abbrev pub is_among : ℕ → List ℕ → Bool
is_among x [] = false
is_among x (y ∷ ys) = cond (eqb x y) true (is_among x ys)

-- whether no number is among them twice
abbrev pub all_differ : List ℕ → Bool
all_differ [] = true
all_differ (x ∷ xs) = cond (is_among x xs) false (all_differ xs)

pub among_head : (x y : ℕ) (ys : List ℕ) → x ≡ y → is_among x (y ∷ ys) ≡ true
among_head x y ys e = ap (λ (b : Bool). cond b true (is_among x ys)) (eq-eqb x y e)

pub among_tail : (x y : ℕ) (ys : List ℕ) → (x ≡ y → ⊥) → is_among x (y ∷ ys) ≡ is_among x ys
among_tail x y ys n = ap (λ (b : Bool). cond b true (is_among x ys)) (ne_eqb x y n)

pub among_more : (x y : ℕ) (ys : List ℕ) → is_among x ys ≡ true → is_among x (y ∷ ys) ≡ true
among_more x y ys h = elim (cases_eq x y) [ inl e ↦ among_head x y ys e | inr n ↦ among_tail x y ys n ∙ h ]

pub among_map : (f : ℕ → ℕ) (x : ℕ) (xs : List ℕ) → is_among x xs ≡ true → is_among (f x) (map f xs) ≡ true
among_map f x [] h = cc
among_map f x (y ∷ ys) h = grind (arith, common_steps, among_head, among_more, among_tail, among_map f x ys)

pub differ_tail : (x : ℕ) (xs : List ℕ) → all_differ (x ∷ xs) ≡ true → (is_among x xs ≡ false) × (all_differ xs ≡ true)
differ_tail x xs h = grind (arith, common_steps)

-- where the values of f differ, one value is of one number
pub one_of_each : (f : ℕ → ℕ) (xs : List ℕ) → all_differ (map f xs) ≡ true → (x y : ℕ) → is_among x xs ≡ true → is_among y xs ≡ true → f x ≡ f y → x ≡ y
one_of_each f [] h x y hx hy e = cc
one_of_each f (z ∷ zs) h x y hx hy e = grind (arith, common_steps, differ_tail, among_map, among_tail, one_of_each f zs)

-- whether each number below n passes
abbrev pub all_below : (ℕ → Bool) → ℕ → Bool
all_below p zero = true
all_below p (suc n) = cond (p n) (all_below p n) false

pub both_pass : (a b : Bool) → cond a b false ≡ true → (a ≡ true) × (b ≡ true)
both_pass a b h = grind (arith, common_steps)

pub passes_below : (p : ℕ → Bool) (n i : ℕ) → all_below p n ≡ true → i < n → p i ≡ true
passes_below p zero i all h = absurd (omega arith)
passes_below p (suc n) i all h = grind (arith, common_steps, both_pass, passes_below p n i)

-- P of each number below n
abbrev pub EachBelow : (ℕ → Type 0) → ℕ → Type 0
EachBelow P zero = ⊤
EachBelow P (suc n) = P 0 × EachBelow (λ i. P (suc i)) n

pub each_below : (P : ℕ → Type 0) (n : ℕ) → EachBelow P n → (i : ℕ) → i < n → P i
each_below P zero all i h = absurd (omega arith)
each_below P (suc n) all zero h = all.0
each_below P (suc n) all (suc i) h = each_below (λ j. P (suc j)) n all.1 i (omega arith)

-- whether each of the numbers passes
abbrev pub all_pass : (ℕ → Bool) → List ℕ → Bool
all_pass p [] = true
all_pass p (x ∷ xs) = cond (p x) (all_pass p xs) false

pub passes_among : (p : ℕ → Bool) (x : ℕ) (xs : List ℕ) → all_pass p xs ≡ true → is_among x xs ≡ true → p x ≡ true
passes_among p x [] all h = let no : false ≡ true = h in absurd (cc no)
passes_among p x (y ∷ ys) all h = grind (arith, common_steps, both_pass, among_tail, passes_among p x ys)

filter_keeps : (p : ℕ → Bool) (y : ℕ) (ys : List ℕ) → p y ≡ true → filter p (y ∷ ys) ≡ y ∷ filter p ys
filter_keeps p y ys h = ap (λ (b : Bool). cond b (y ∷ filter p ys) (filter p ys)) h

filter_drops : (p : ℕ → Bool) (y : ℕ) (ys : List ℕ) → p y ≡ false → filter p (y ∷ ys) ≡ filter p ys
filter_drops p y ys h = ap (λ (b : Bool). cond b (y ∷ filter p ys) (filter p ys)) h

-- a filter keeps a number that is among them and passes
pub among_filter : (p : ℕ → Bool) (x : ℕ) (xs : List ℕ) → is_among x xs ≡ true → p x ≡ true → is_among x (filter p xs) ≡ true
among_filter p x [] h passed = h
among_filter p x (y ∷ ys) h passed = grind (arith, common_steps, filter_keeps, among_head, among_tail, among_more, filter_drops, among_filter p x ys)

-- and nothing else
pub filter_among : (p : ℕ → Bool) (x : ℕ) (xs : List ℕ) → is_among x (filter p xs) ≡ true → (is_among x xs ≡ true) × (p x ≡ true)
filter_among p x [] h = let no : false ≡ true = h in absurd (cc no)
filter_among p x (y ∷ ys) h = grind (arith, common_steps, among_head, among_tail, filter_keeps, among_more, filter_drops, filter_among p x ys)

-- a filter that no number passes leaves nothing
pub filter_none : (p : ℕ → Bool) (xs : List ℕ) → ((x : ℕ) → is_among x xs ≡ true → p x ≡ true → ⊥) → filter p xs ≡ []
filter_none p [] none = refl
filter_none p (y ∷ ys) none = grind (arith, common_steps, among_head, filter_drops, among_more, filter_none p ys (λ x h. none x (among_more x y ys h)))

-- a filter that only one number passes leaves that number
pub filter_one : (p : ℕ → Bool) (x : ℕ) (xs : List ℕ) → all_differ xs ≡ true → is_among x xs ≡ true → p x ≡ true → ((y : ℕ) → is_among y xs ≡ true → p y ≡ true → y ≡ x) → filter p xs ≡ x ∷ []
filter_one p x [] differ h passed only = let no : false ≡ true = h in absurd (cc no)
filter_one p x (y ∷ ys) differ h passed only = grind (arith, common_steps, differ_tail, among_head, filter_keeps, filter_none, among_more, filter_drops, among_tail, filter_one p x ys)

pub differ_unmap : (f : ℕ → ℕ) (xs : List ℕ) → all_differ (map f xs) ≡ true → all_differ xs ≡ true
differ_unmap f [] h = refl
differ_unmap f (x ∷ xs) h = grind (arith, common_steps, differ_tail, among_map, differ_unmap f xs)

pub differ_filter : (p : ℕ → Bool) (xs : List ℕ) → all_differ xs ≡ true → all_differ (filter p xs) ≡ true
differ_filter p [] h = refl
differ_filter p (x ∷ xs) h = grind (arith, common_steps, differ_tail, filter_among, filter_keeps, filter_drops, differ_filter p xs)

-- the test of membership and the fact
pub among_contains : (x : ℕ) (xs : List ℕ) → is_among x xs ≡ true → Contains xs x
among_contains x [] h = let no : false ≡ true = h in absurd (cc no)
among_contains x (y ∷ ys) h = elim (cases_eq x y) [
  | inl here ↦ (0, omega arith, sym here)
  | inr other ↦ Contains-append_right (y ∷ []) ys x (among_contains x ys (sym (among_tail x y ys other) ∙ h))
]

pub contains_among : (x : ℕ) (xs : List ℕ) → Contains xs x → is_among x xs ≡ true
contains_among x [] h = absurd (omega (arith, h.1))
contains_among x (y ∷ ys) (zero, within, here) = among_head x y ys (sym here)
contains_among x (y ∷ ys) (suc k, within, here) = among_more x y ys (contains_among x ys (k, omega arith, here))

-- an element of a mapped list comes from the list
pub from_map : (f : ℕ → ℕ) (x : ℕ) (xs : List ℕ) → is_among x (map f xs) ≡ true → (y : ℕ) × (is_among y xs ≡ true) × (f y ≡ x)
from_map f x [] h = let no : false ≡ true = h in absurd (cc no)
from_map f x (y ∷ ys) h = grind (arith, common_steps, among_head, among_tail, among_more, from_map f x ys)

-- an injective map keeps the numbers different
pub differ_map : (f : ℕ → ℕ) (xs : List ℕ) → all_differ xs ≡ true → ((x y : ℕ) → is_among x xs ≡ true → is_among y xs ≡ true → f x ≡ f y → x ≡ y) → all_differ (map f xs) ≡ true
differ_map f [] h told = refl
differ_map f (x ∷ xs) h told =
    let apart = differ_tail x xs h in
    let rest = differ_map f xs apart.1 (λ y z hy hz same. told y z (among_more y x xs hy) (among_more z x xs hz) same) in
    elim (cases_Bool (is_among (f x) (map f xs))) [
      | inl found ↦
          let from = from_map f (f x) xs found in
          let same : from.0 ≡ x = told from.0 x (among_more from.0 x xs from.1) (among_head x x xs refl) from.2 in
          let no : false ≡ true = sym apart.0 ∙ ap (λ (n : ℕ). is_among n xs) (sym same) ∙ from.1 in
          cc no
      | inr none ↦ ap (λ (b : Bool). cond b false (all_differ (map f xs))) none ∙ rest
    ]

pub among_get : (xs : List ℕ) (i d : ℕ) → i < length xs → is_among (get_or xs i d) xs ≡ true
among_get [] i d inside = absurd (omega (arith, inside))
among_get (x ∷ xs) zero d inside = among_head x x xs refl
among_get (x ∷ xs) (suc i) d inside = among_more (get_or xs i d) x xs (among_get xs i d (omega (arith, inside)))

pub differ_pairs : (xs : List ℕ) → all_differ xs ≡ true → AllPairs (λ (x y : ℕ). x ≢ y) xs
differ_pairs [] h i j d order inside = absurd (omega (arith, inside))
differ_pairs (x ∷ xs) h zero zero d order inside = absurd (omega arith)
differ_pairs (x ∷ xs) h zero (suc j) d order inside = grind (arith, common_steps, differ_tail, among_get)
differ_pairs (x ∷ xs) h (suc i) zero d order inside = absurd (omega arith)
differ_pairs (x ∷ xs) h (suc i) (suc j) d order inside = differ_pairs xs (differ_tail x xs h).1 i j d (omega arith) (omega (arith, inside))

-- an element of either list is one of both together
pub among_left : (x : ℕ) (xs ys : List ℕ) → is_among x xs ≡ true → is_among x (xs ++ ys) ≡ true
among_left x xs ys h = contains_among x (xs ++ ys) (Contains-append_left xs ys x (among_contains x xs h))

pub among_right : (x : ℕ) (xs ys : List ℕ) → is_among x ys ≡ true → is_among x (xs ++ ys) ≡ true
among_right x xs ys h = contains_among x (xs ++ ys) (Contains-append_right xs ys x (among_contains x ys h))

pub among_either : (x : ℕ) (xs ys : List ℕ) → is_among x (xs ++ ys) ≡ true → (is_among x xs ≡ true) ⊎ (is_among x ys ≡ true)
among_either x xs ys h = elim (Contains-append_cases xs ys x (among_contains x (xs ++ ys) h)) [ inl left ↦ inl (contains_among x xs left) | inr right ↦ inr (contains_among x ys right) ]

-- two lists of different numbers with none in common
pub differ_append : (xs ys : List ℕ) → all_differ xs ≡ true → all_differ ys ≡ true → ((x : ℕ) → is_among x xs ≡ true → is_among x ys ≡ true → ⊥) → all_differ (xs ++ ys) ≡ true
differ_append [] ys hx hy apart = hy
differ_append (x ∷ xs) ys hx hy apart = grind (arith, common_steps, differ_tail, among_more, among_either, among_head, differ_append xs ys)

-- tests that agree on each element keep as many
pub filter_agree : (p q : ℕ → Bool) (xs : List ℕ) → ((x : ℕ) → is_among x xs ≡ true → p x ≡ q x) → length (filter p xs) ≡ length (filter q xs)
filter_agree p q [] same = refl
filter_agree p q (x ∷ xs) same = grind (arith, common_steps, among_more, among_head, filter_keeps, filter_drops, filter_agree p q xs (λ y h. same y (among_more y x xs h)))
