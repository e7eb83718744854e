-- The gaps of a part of a stream may be gaps there, and touch the same windows.
use Rattle.rds_live.proofs.Names.{common_steps, ◌≡◌, ℕ, zero, suc, ◌+◌, ◌-◌, ◌*◌, ◌<◌, ◌≤◌, List, [], ◌∷◌, ◌++◌, append_assoc, drop, get_or, map, Bool, true, false, Option, Some, length, min, refl, sym, ap, subst, ◌∙◌, arith, ⊤, ◌&&◌, ◌||◌, slice_index_or, All, AllAdjacentBelow, cons_option, list_any, range_with_len, false≢true, le-leb, leb-true, lt-leb, le-ltb, lt-ltb, ltb-true, All-cons, All-head, All-nil, All-tail, drop_more, length-append, length-map-range_with_len, AreGaps, is_touched_by, gaps_within, part_of_gap, filled_up, spare}

-- ---- gaps, one after another

-- gaps from a place on, which end by another
abbrev AreFrom : ℕ → List (ℕ × ℕ) → ℕ → Type 0
AreFrom low [] n = ⊤
AreFrom low (gap ∷ gaps) n = (low ≤ gap.0) × (gap.0 < gap.1) × (gap.1 ≤ n) × AreFrom gap.1 gaps n

abbrev Lies : ℕ → ℕ × ℕ → Type 0
Lies n gap = (gap.0 < gap.1) × (gap.1 ≤ n)

abbrev Apart : List (ℕ × ℕ) → Type 0
Apart gaps = AllAdjacentBelow (λ gap next. gap.1 ≤ next.0) gaps (length gaps)

each : (low : ℕ) (gaps : List (ℕ × ℕ)) (n : ℕ) → AreFrom low gaps n → All (Lies n) gaps
each low [] n h = All-nil (Lies n)
each low (gap ∷ gaps) n h = All-cons (Lies n) gap gaps (h.1, h.2) (each gap.1 gaps n h.3)

apart : (low : ℕ) (gaps : List (ℕ × ℕ)) (n : ℕ) → AreFrom low gaps n → Apart gaps
apart low [] n h k d l = absurd (omega arith)
apart low (gap ∷ []) n h k d l = absurd (omega arith)
apart low (gap ∷ next ∷ gaps) n h zero d l = h.3.0
apart low (gap ∷ next ∷ gaps) n h (suc k) d l = grind (arith, common_steps, apart gap.1 (next ∷ gaps) n h.3 k d (omega arith))

after_first : (gap : ℕ × ℕ) (gaps : List (ℕ × ℕ)) → Apart (gap ∷ gaps) → Apart gaps
after_first gap gaps h k d l =
    let e : suc k + 1 ≡ suc (k + 1) = omega arith in
    subst (λ (m : ℕ). (slice_index_or gaps k d).1 ≤ (slice_index_or (gap ∷ gaps) m d).0) e (h (suc k) d (omega arith))

pass : (low : ℕ) (gaps : List (ℕ × ℕ)) (n : ℕ) → All (Lies n) gaps → Apart gaps
    → ((d : ℕ × ℕ) → 0 < length gaps → low ≤ (slice_index_or gaps 0 d).0) → AreFrom low gaps n
pass low [] n all between first = tt
pass low (gap ∷ gaps) n all between first =
    let lies = All-head (Lies n) gap gaps all in
    let rest = pass gap.1 gaps n (All-tail (Lies n) gap gaps all) (after_first gap gaps between) (λ d l. between 0 d (omega arith)) in
    (first gap (omega arith), lies.0, lies.1, rest)

in-a-row : (gaps : List (ℕ × ℕ)) (n : ℕ) → AreGaps n gaps → AreFrom 0 gaps n
in-a-row gaps n are = pass 0 gaps n are.each are.apart (λ d l. omega arith)

-- ---- those of a part

within : (d n top low from : ℕ) (gaps : List (ℕ × ℕ)) → from ≤ low - d → AreFrom low gaps top → AreFrom from (gaps_within gaps d n) n
within d n top low from [] order h = tt
within d n top low from (gap ∷ gaps) order h = grind (arith, common_steps, lt-ltb, le-ltb, within d n top gap.1 (min (gap.1 - d) n) gaps (omega arith) h.3, within d n top gap.1 from gaps (omega (arith, h.0, h.1)) h.3)

-- they may be gaps of it
pub gaps-of-part : (top d n : ℕ) (gaps : List (ℕ × ℕ)) → AreGaps top gaps → AreGaps n (gaps_within gaps d n)
gaps-of-part top d n gaps are =
    let row = within d n top 0 0 gaps (omega arith) (in-a-row gaps top are) in
    record { each = each 0 (gaps_within gaps d n) n row; apart = apart 0 (gaps_within gaps d n) n row }

-- they are those that were found, of as many places
pub found-of-part : (top d m n : ℕ) (gaps found : List (ℕ × ℕ)) → AreGaps top gaps → found ≡ gaps_within gaps d m → m ≡ n → AreGaps n found
found-of-part top d m n gaps found are is long =
    subst (λ (gs : List (ℕ × ℕ)). AreGaps n gs) (sym (is ∙ ap (gaps_within gaps d) long)) (gaps-of-part top d n gaps are)

-- no place has none
pub none-of-part : (d : ℕ) (gaps : List (ℕ × ℕ)) → [] ≡ gaps_within gaps d 0
none-of-part d [] = refl
none-of-part d (gap ∷ gaps) = grind (arith, common_steps, le-ltb, none-of-part d gaps)

-- ---- the windows that they touch

same-truth : (p q : Bool) → (p ≡ true → q ≡ true) → (q ≡ true → p ≡ true) → p ≡ q
same-truth p q f g = grind (arith, common_steps)

both-true : (p q : Bool) → (p && q) ≡ true → (p ≡ true) × (q ≡ true)
both-true p q e = grind (arith, common_steps, false≢true)

not-true : (p : Bool) → (p ≡ true → ⊥) → p ≡ false
not-true p h = grind (arith, common_steps)

-- a gap of which some is in the part touches a window there exactly if the whole of it does
same-touch : (d n i : ℕ) (gap : ℕ × ℕ) → 25 ≤ i → i < n → is_touched_by i (gap.0 - d, min (gap.1 - d) n) ≡ is_touched_by (i + d) gap
same-touch d n i gap late early = grind (arith, common_steps, same-truth, le-leb, leb-true, lt-ltb, ltb-true)

-- and a gap of which nothing is there touches none
no-touch : (d n i : ℕ) (gap : ℕ × ℕ) → 25 ≤ i → i < n → gap.0 < gap.1 → min (gap.1 - d) n ≤ gap.0 - d → is_touched_by (i + d) gap ≡ false
no-touch d n i gap late early some none = grind (arith, common_steps, not-true, both-true, leb-true, ltb-true)

touches-alike : (d n i top low : ℕ) (gaps : List (ℕ × ℕ)) → 25 ≤ i → i < n → AreFrom low gaps top
    → list_any (is_touched_by i) (gaps_within gaps d n) ≡ list_any (is_touched_by (i + d)) gaps
touches-alike d n i top low [] late early h = refl
touches-alike d n i top low (gap ∷ gaps) late early h = grind (arith, common_steps, lt-ltb, same-touch, le-ltb, no-touch, touches-alike d n i top gap.1 gaps late early h.3)

-- the windows of a part and those of the whole, d places further, are touched alike
abbrev pub TouchAlike : ℕ → ℕ → List (ℕ × ℕ) → List (ℕ × ℕ) → Type 0
TouchAlike d n whole part = (i : ℕ) → 25 ≤ i → i < n → list_any (is_touched_by i) part ≡ list_any (is_touched_by (i + d)) whole

pub part-touched : (top d n : ℕ) (gaps : List (ℕ × ℕ)) → AreGaps top gaps → TouchAlike d n gaps (gaps_within gaps d n)
part-touched top d n gaps are i late early = touches-alike d n i top 0 gaps late early (in-a-row gaps top are)

-- in a beginning they are the same
pub start-touched : (n : ℕ) (gaps : List (ℕ × ℕ)) → TouchAlike (8 * 0) n gaps gaps
start-touched n gaps i late early = let e : i ≡ i + 8 * 0 = omega arith in ap (λ (p : ℕ). list_any (is_touched_by p) gaps) e

-- ---- the gaps of a part as they are found

-- the gaps found so far and those that are left, if the next one has some of it in the part
pub one-found : (d n : ℕ) (gaps found all : List (ℕ × ℕ)) (i : ℕ) (none part : ℕ × ℕ) → i < length gaps → found ++ gaps_within (drop i gaps) d n ≡ all
    → Some part ≡ part_of_gap d n (get_or gaps i none) → (found ++ part ∷ []) ++ gaps_within (drop (i + 1) gaps) d n ≡ all
one-found d n gaps found all i none part there so_far is = grind (arith, common_steps, append_assoc, drop_more)

-- ---- how many they are

one-more : (o : Option (ℕ × ℕ)) (rest : List (ℕ × ℕ)) (n : ℕ) → length rest ≤ n → length (cons_option o rest) ≤ suc n
one-more o rest n h = grind (arith, common_steps)

no-more : (d n : ℕ) (gaps : List (ℕ × ℕ)) → length (gaps_within gaps d n) ≤ length gaps
no-more d n [] = omega arith
no-more d n (gap ∷ gaps) = one-more (part_of_gap d n gap) (gaps_within gaps d n) (length gaps) (no-more d n gaps)

each-a-place : (low n : ℕ) (gaps : List (ℕ × ℕ)) → low ≤ n → AreFrom low gaps n → low + length gaps ≤ n
each-a-place low n [] order h = omega (arith, order)
each-a-place low n (gap ∷ gaps) order h = omega (arith, h.0, h.1, h.2, each-a-place gap.1 n gaps h.2 h.3)

-- no more than there are, and no more than the part has places
pub few-of-part : (top d n : ℕ) (gaps : List (ℕ × ℕ)) → AreGaps top gaps → length (gaps_within gaps d n) ≤ min (length gaps) n
few-of-part top d n gaps are =
    omega (arith, no-more d n gaps, each-a-place 0 n (gaps_within gaps d n) (omega arith) (in-a-row (gaps_within gaps d n) n (gaps-of-part top d n gaps are)))

-- ---- gaps after a part

from-before : (low m n : ℕ) (gaps : List (ℕ × ℕ)) → low ≤ m → AreFrom m gaps n → AreFrom low gaps n
from-before low m n [] order h = tt
from-before low m n (gap ∷ gaps) order h = (omega (arith, order, h.0), h.1, h.2, h.3)

behind : (low m n : ℕ) (gaps others : List (ℕ × ℕ)) → low ≤ m → m ≤ n → AreFrom low gaps m → AreFrom m others n → AreFrom low (gaps ++ others) n
behind low m n [] others order more h g = from-before low m n others order g
behind low m n (gap ∷ gaps) others order more h g = (h.0, h.1, omega (arith, h.2, more), behind gap.1 m n gaps others h.2 more h.3 g)

spares : (k n top : ℕ) → 7920 + k + n ≤ top → AreFrom (7920 + k) (map spare (range_with_len k n)) top
spares k zero top room = tt
spares k (suc n) top room = grind (arith, common_steps, spares (k + 1) n top (omega (arith, room)))

-- gaps of which the last are after the bytes that are heard
pub gaps-filled-up : (gaps : List (ℕ × ℕ)) (slots : ℕ) → AreGaps 7920 gaps → length gaps ≤ slots → slots ≤ 7920 → AreGaps 15840 (filled_up gaps slots)
gaps-filled-up gaps slots are fits few =
    let row = behind 0 7920 15840 gaps (map spare (range_with_len (length gaps) (slots - length gaps))) (omega arith) (omega arith) (in-a-row gaps 7920 are)
    (from-before 7920 (7920 + length gaps) 15840 (map spare (range_with_len (length gaps) (slots - length gaps))) (omega arith) (spares (length gaps) (slots - length gaps) 15840 (omega (arith, fits, few)))) in
    record { each = each 0 (filled_up gaps slots) 15840 row; apart = apart 0 (filled_up gaps slots) 15840 row }

pub length-filled-up : (gaps : List (ℕ × ℕ)) (slots : ℕ) → length gaps ≤ slots → length (filled_up gaps slots) ≡ slots
length-filled-up gaps slots fits = grind (arith, common_steps, length-append, length-map-range_with_len)

spares-untouched : (i k n : ℕ) → i < 7920 → list_any (is_touched_by i) (map spare (range_with_len k n)) ≡ false
spares-untouched i k zero early = refl
spares-untouched i k (suc n) early = rw (lt-leb (7920 + k) i (omega (arith, early))) (spares-untouched i (k + 1) n early)

touch-before : (i : ℕ) (gaps others : List (ℕ × ℕ)) → list_any (is_touched_by i) others ≡ false → list_any (is_touched_by i) (gaps ++ others) ≡ list_any (is_touched_by i) gaps
touch-before i [] others none = none
touch-before i (gap ∷ gaps) others none = ap (λ (t : Bool). is_touched_by i gap || t) (touch-before i gaps others none)

-- they touch no window there, so that in the part all is touched as it was
pub filled-up-touched : (top d n slots : ℕ) (gaps : List (ℕ × ℕ)) → AreGaps top gaps → n ≤ 7920
    → TouchAlike (8 * 0) n (filled_up (gaps_within gaps d 7920) slots) (gaps_within gaps d n)
filled-up-touched top d n slots gaps are few i late early =
    let found = gaps_within gaps d 7920 in
    let e : i + 8 * 0 ≡ i = omega arith in
    part-touched top d n gaps are i late early
    ∙ sym (part-touched top d 7920 gaps are i late (omega (arith, early, few)))
    ∙ sym (touch-before i found (map spare (range_with_len (length found) (slots - length found))) (spares-untouched i (length found) (slots - length found) (omega (arith, early, few))))
    ∙ ap (λ (p : ℕ). list_any (is_touched_by p) (filled_up found slots)) (sym e)
