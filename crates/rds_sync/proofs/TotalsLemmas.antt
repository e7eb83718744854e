-- Totals of a list that grows.
use Rattle.rds_sync.proofs.Names.{common_steps, ◌≡◌, ℕ, ◌-◌, ◌≤◌, List, [], ◌∷◌, ◌++◌, length, get_or, arith, slice_index, sum_by-append, Block, Item, Totals, totals_of, plus, IsAtMost, IsRest, Bool, refl, ap, ap₂, ◌∙◌, add-zero, sum_by, if◌then◌else◌, is_some, ◌&&◌, list_all, sum_by-cons, GroupRecord, Group, info_of, Outcome, outcome_of, was_valid, was_lost, has_span, bits_inverted, has_info, group_totals, sum_blocks, count_blocks, is_valid, is_lost, is_corrected_by, bits_corrected, is_complete, map, ◌+◌, ◌<◌, take, sym, append_assoc, append-nil, length-append, take_more, LostLock, CountOf, count_of, joined, group_count, loss_count, added, ◌*◌, ◌/◌, ◌%◌, ◌^◌, in_lanes, AreLanes, counted}

-- the totals of two lists, one after the other
pub totals_of_append : (xs ys : List Item) → totals_of (xs ++ ys) ≡ plus (totals_of xs) (totals_of ys)
totals_of_append xs ys = simp sum_by-append

-- a greater bound holds too
pub IsAtMost-more : (m n : ℕ) (t : Totals) → m ≤ n → IsAtMost m t → IsAtMost n t
IsAtMost-more m n t h a = omega (arith, a)

-- four blocks, one by one
pub four_blocks : (bs : List Block) (a b c d : Block) → length bs ≡ 4
    → bs ≡ get_or bs 0 a ∷ get_or bs 1 b ∷ get_or bs 2 c ∷ get_or bs 3 d ∷ []
four_blocks bs a b c d h = grind (arith, common_steps)

-- totals with the same counts
pub same_counts : {v v2 p p2 q q2 r r2 s s2 u u2 l l2 i i2 g g2 k k2 a a2 o o2 : ℕ}
    → v ≡ v2 → p ≡ p2 → q ≡ q2 → r ≡ r2 → s ≡ s2 → u ≡ u2 → l ≡ l2 → i ≡ i2 → g ≡ g2 → k ≡ k2 → a ≡ a2 → o ≡ o2
    → ◌≡◌ {A = Totals} (record { valid = v; bursts = p ∷ q ∷ r ∷ s ∷ u ∷ []; lost = l; bits = i; groups = g; complete = k; acquired = a; losses = o })
    (record { valid = v2; bursts = p2 ∷ q2 ∷ r2 ∷ s2 ∷ u2 ∷ []; lost = l2; bits = i2; groups = g2; complete = k2; acquired = a2; losses = o2 })
same_counts h1 h2 h3 h4 h5 h6 h7 h8 h9 h10 h11 h12 = cc

five_numbers : (xs : List ℕ) → length xs ≡ 5 → xs ≡ slice_index xs 0 ∷ slice_index xs 1 ∷ slice_index xs 2 ∷ slice_index xs 3 ∷ slice_index xs 4 ∷ []
five_numbers xs h = grind (arith, common_steps)

-- each count of a part is within that of the whole
pub part_fits : (part whole rest : Totals) → IsRest part whole rest
    → (part.valid ≤ whole.valid) × (slice_index part.bursts 0 ≤ slice_index whole.bursts 0) × (slice_index part.bursts 1 ≤ slice_index whole.bursts 1)
    × (slice_index part.bursts 2 ≤ slice_index whole.bursts 2) × (slice_index part.bursts 3 ≤ slice_index whole.bursts 3)
    × (slice_index part.bursts 4 ≤ slice_index whole.bursts 4) × (part.lost ≤ whole.lost) × (part.bits ≤ whole.bits)
    × (part.groups ≤ whole.groups) × (part.complete ≤ whole.complete) × (part.acquired ≤ whole.acquired) × (part.losses ≤ whole.losses)
part_fits part whole rest is = rw is.joined (omega arith)

-- the rest, count by count
pub rest_is : (part whole rest : Totals) → IsRest part whole rest
    → ◌≡◌ {A = Totals} (record {
      valid = whole.valid - part.valid;
      bursts = (slice_index whole.bursts 0 - slice_index part.bursts 0) ∷ (slice_index whole.bursts 1 - slice_index part.bursts 1)
          ∷ (slice_index whole.bursts 2 - slice_index part.bursts 2) ∷ (slice_index whole.bursts 3 - slice_index part.bursts 3)
          ∷ (slice_index whole.bursts 4 - slice_index part.bursts 4) ∷ [];
      lost = whole.lost - part.lost;
      bits = whole.bits - part.bits;
      groups = whole.groups - part.groups;
      complete = whole.complete - part.complete;
      acquired = whole.acquired - part.acquired;
      losses = whole.losses - part.losses;
    }) rest
rest_is part whole rest is = grind (arith, common_steps, same_counts, slice_index, five_numbers, is.joined, is.spans, five_numbers rest.bursts is.spans)

-- The totals of a group, from how its blocks came out.
all-through : {A B : Type 0} (p : A → Bool) (q : B → Bool) (k : A → B) → ((a : A) → p a ≡ q (k a)) → (xs : List A) → list_all p xs ≡ list_all q (map k xs)
all-through p q k e [] = refl
all-through p q k e (x ∷ xs) = ap₂ (λ (s t : Bool). s && t) (e x) (all-through p q k e xs)

sum_is : (f : Block → ℕ) (h : Outcome → ℕ) → ((b : Block) → f b ≡ h (outcome_of b)) → (g : GroupRecord) → sum_blocks f (Group g ∷ []) ≡ sum_by h (map outcome_of g.blocks)
sum_is f h e g = grind (arith, common_steps, sum_by-cons, add-zero, outcome_of)

-- 1 where the test passes
abbrev one_if : Bool → ℕ
one_if t = if t then 1 else 0

count_is : (p : Block → Bool) (q : Outcome → Bool) → ((b : Block) → p b ≡ q (outcome_of b)) → (g : GroupRecord)
    → count_blocks p (Group g ∷ []) ≡ sum_by (λ o. one_if (q o)) (map outcome_of g.blocks)
count_is p q e = sum_is (λ b. one_if (p b)) (λ o. one_if (q o)) (λ b. ap one_if (e b))

pub valid_is : (b : Block) → is_valid b ≡ was_valid (outcome_of b)
valid_is b = grind (arith, common_steps)

lost_is : (b : Block) → is_lost b ≡ was_lost (outcome_of b)
lost_is b = grind (arith, common_steps)

corrected_is : (s : ℕ) (b : Block) → is_corrected_by s b ≡ has_span s (outcome_of b)
corrected_is s b = grind (arith, common_steps)

bits_are : (b : Block) → bits_corrected b ≡ bits_inverted (outcome_of b)
bits_are b = grind (arith, common_steps)

info_is : (b : Block) → is_some (info_of b) ≡ has_info (outcome_of b)
info_is b = grind (arith, common_steps)

pub group-tells : (g : GroupRecord) → totals_of (Group g ∷ []) ≡ group_totals (map outcome_of g.blocks)
group-tells g =
    same_counts (count_is is_valid was_valid valid_is g)
    (count_is (is_corrected_by 1) (has_span 1) (corrected_is 1) g)
    (count_is (is_corrected_by 2) (has_span 2) (corrected_is 2) g)
    (count_is (is_corrected_by 3) (has_span 3) (corrected_is 3) g)
    (count_is (is_corrected_by 4) (has_span 4) (corrected_is 4) g)
    (count_is (is_corrected_by 5) (has_span 5) (corrected_is 5) g)
    (count_is is_lost was_lost lost_is g)
    (sum_is bits_corrected bits_inverted bits_are g)
    refl
    (sum_by-cons (λ (item : Item). one_if (is_complete item)) (Group g) []
    ∙ add-zero (one_if (is_complete (Group g)))
    ∙ ap one_if (all-through (λ b. is_some (info_of b)) has_info outcome_of info_is g.blocks))
    refl refl

-- Items counted one after the other.
pub added-append : (before : CountOf) (xs ys : List Item) → added before (xs ++ ys) ≡ added (added before xs) ys
added-append before [] ys = refl
added-append before (x ∷ xs) ys = added-append (joined before (count_of (x ∷ []))) xs ys

-- of more items after those before
pub added-further : (before now after : CountOf) (xs ys : List Item) → now ≡ added before xs → after ≡ added now ys → after ≡ added before (xs ++ ys)
added-further before now after xs ys first more = more ∙ ap (λ (k : CountOf). added k ys) first ∙ sym (added-append before xs ys)

-- and of none
pub added-nothing : (before : CountOf) (xs : List Item) → xs ≡ [] → before ≡ added before xs
added-nothing before xs none = ap (λ (is : List Item). added before is) (sym none)

-- a group, by how its blocks came out
pub group-added : (before : CountOf) (g : GroupRecord) (os : List Outcome) → os ≡ map outcome_of g.blocks → joined before (group_count os) ≡ added before (Group g ∷ [])
group-added before g os is = grind (arith, common_steps, joined, group_count, group-tells)

-- and the loss that it closes with
pub lost-added : (before mid after : CountOf) (g : GroupRecord) (os : List Outcome) (place : ℕ) → os ≡ map outcome_of g.blocks
    → mid ≡ joined before (group_count os) → after ≡ joined mid loss_count → after ≡ added before (Group g ∷ LostLock place ∷ [])
lost-added before mid after g os place is first second = grind (arith, common_steps, joined, loss_count, group-added)

count-append : (xs ys : List Item) → joined (count_of xs) (count_of ys) ≡ count_of (xs ++ ys)
count-append xs ys = ap₂ (λ (t : Totals) (n : ℕ). record { totals = t; items = n }) (sym (totals_of_append xs ys)) (sym (length-append xs ys))

-- one item more of a list
pub count-next : (items : List Item) (n : ℕ) (d item : Item) → n < length items → get_or items n d ≡ item → (now after : CountOf) → now ≡ count_of (take n items)
    → after ≡ joined now (count_of (item ∷ [])) → after ≡ count_of (take (n + 1) items)
count-next items n d item within is now after before more = grind (arith, common_steps, joined, count_of, count-append, take_more)

plus-assoc : (t u w : Totals) → plus t (plus u w) ≡ plus (plus t u) w
plus-assoc t u w = grind (arith, common_steps, same_counts)

joined-assoc : (a k m : CountOf) → joined a (joined k m) ≡ joined (joined a k) m
joined-assoc a k m = ap₂ (λ (t : Totals) (n : ℕ). record { totals = t; items = n }) (plus-assoc a.totals k.totals m.totals) (omega arith)

-- items that were counted after others are counted together with these
pub counted-together : (first now : CountOf) (xs ys : List Item) → joined first now ≡ count_of xs → joined first (added now ys) ≡ count_of (xs ++ ys)
counted-together first now xs [] is = is ∙ ap (λ (is : List Item). count_of is) (sym (append-nil xs))
counted-together first now xs (y ∷ ys) is =
    counted-together first (joined now (count_of (y ∷ []))) (xs ++ y ∷ []) ys
    (joined-assoc first now (count_of (y ∷ [])) ∙ ap (λ (k : CountOf). joined k (count_of (y ∷ []))) is ∙ count-append xs (y ∷ []))
    ∙ ap (λ (is : List Item). count_of is) (append_assoc xs (y ∷ []) ys)

-- Counts in lanes of a number.

-- the lanes of a number
pub record HasLanes (n a b c d e f g h : ℕ) : Type 0 where
  pub valid : n % 65536 ≡ a
  pub burst1 : n / 2 ^ 16 % 65536 ≡ b
  pub burst2 : n / 2 ^ 32 % 65536 ≡ c
  pub burst3 : n / 2 ^ 48 % 65536 ≡ d
  pub burst4 : n / 2 ^ 64 % 65536 ≡ e
  pub burst5 : n / 2 ^ 80 % 65536 ≡ f
  pub lost : n / 2 ^ 96 % 65536 ≡ g
  pub bits : n / 2 ^ 112 % 65536 ≡ h

abbrev in_row : ℕ → ℕ → ℕ → ℕ → ℕ → ℕ → ℕ → ℕ → ℕ
in_row a b c d e f g h = a + 2 ^ 16 * b + 2 ^ 32 * c + 2 ^ 48 * d + 2 ^ 64 * e + 2 ^ 80 * f + 2 ^ 96 * g + 2 ^ 112 * h

pub lanes-of : (n a b c d e f g h : ℕ) → n ≡ in_row a b c d e f g h
    → a < 65536 → b < 65536 → c < 65536 → d < 65536 → e < 65536 → f < 65536 → g < 65536 → h < 65536 → HasLanes n a b c d e f g h
lanes-of n a b c d e f g h is la lb lc ld le lf lg lh = grind (arith, common_steps)

-- a group more
module _ (n groups d : ℕ) (o p q r : Outcome) (are : AreLanes n (20 * groups)) (few : groups < 3004) (d_is : d ≡ in_lanes o + in_lanes p + in_lanes q + in_lanes r)
    (bo : bits_inverted o ≤ 5) (bp : bits_inverted p ≤ 5) (bq : bits_inverted q ≤ 5) (br : bits_inverted r ≤ 5) where
  abbrev count : (Outcome → Bool) → ℕ
  count t = (if t o then 1 else 0) + (if t p then 1 else 0) + (if t q then 1 else 0) + (if t r then 1 else 0)

  one-most : (t : Bool) → (if t then 1 else 0) ≤ 1
  one-most t = grind (arith, common_steps)

  count-most : (t : Outcome → Bool) → count t ≤ 4
  count-most t = omega (arith, one-most (t o), one-most (t p), one-most (t q), one-most (t r))

  abbrev bits : ℕ
  bits = bits_inverted o + bits_inverted p + bits_inverted q + bits_inverted r

  pub lanes-more : HasLanes (n + d) (n % 65536 + count was_valid) (n / 2 ^ 16 % 65536 + count (has_span 1)) (n / 2 ^ 32 % 65536 + count (has_span 2))
      (n / 2 ^ 48 % 65536 + count (has_span 3)) (n / 2 ^ 64 % 65536 + count (has_span 4)) (n / 2 ^ 80 % 65536 + count (has_span 5))
      (n / 2 ^ 96 % 65536 + count was_lost) (n / 2 ^ 112 % 65536 + bits)
  lanes-more = grind (arith, common_steps, count-most, was_valid, has_span, was_lost, lanes-of, count, bits, count-most was_valid, count-most (has_span 1), count-most (has_span 2), count-most (has_span 3), count-most (has_span 4), count-most (has_span 5), count-most was_lost)

  pub are-more : AreLanes (n + d) (20 * (groups + 1))
  are-more =
      let l = lanes-more in
      record {
        sum = omega (arith, are.sum, d_is, l);
        valid = omega (arith, l.valid, are.valid, count-most was_valid);
        burst1 = omega (arith, l.burst1, are.burst1, count-most (has_span 1));
        burst2 = omega (arith, l.burst2, are.burst2, count-most (has_span 2));
        burst3 = omega (arith, l.burst3, are.burst3, count-most (has_span 3));
        burst4 = omega (arith, l.burst4, are.burst4, count-most (has_span 4));
        burst5 = omega (arith, l.burst5, are.burst5, count-most (has_span 5));
        lost = omega (arith, l.lost, are.lost, count-most was_lost);
        bits = omega (arith, l.bits, are.bits, bo, bp, bq, br);
      }

  -- and its totals
  pub counted-group : (clean complete acquired losses whole : ℕ) → whole ≡ (if list_all has_info (o ∷ p ∷ q ∷ r ∷ []) then 1 else 0)
      → counted (n + d) clean (groups + 1) (complete + whole) acquired losses ≡ joined (counted n clean groups complete acquired losses) (group_count (o ∷ p ∷ q ∷ r ∷ []))
  counted-group clean complete acquired losses whole whole_is = grind (arith, common_steps, lanes-more, same_counts)
