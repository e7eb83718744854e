-- Spans: those that are passed over, and those of a list with more after them.
use Rattle.rds_sync.proofs.Names.{common_steps, ◌≡◌, ℕ, ◌+◌, ◌-◌, ◌<◌, ◌≤◌, List, [], ◌∷◌, ◌++◌, All, length, drop, Option, Some, refl, sym, ap, ◌∙◌, arith, length-append, append-nil, MatchOption, YieldsFirst, drop-append-add, All-cons, All-nil, Signal, Item, Span, items_of, items_in, IsSpan, ItemsOf, listed, AreSpans, RuleNumbers, subst, append_assoc, length-drop, drop-append-le, All-head, All-tail, IsAt, IsPast, AreBehind, IsInFirst, ◌^◌, min, take, get_or, min-eq_left, take-length, take-append-drop, take_more, All-drop, IsFound, take-append-add, slice_range, None, slice_get, get_or-take, get_or-drop, slice_get-get_or, slice_get_past}

module _ (b : Signal) (rules : RuleNumbers) where
  -- the items of spans in two rows
  pub items_in-append : (xs ys : List Span) → items_in b rules (xs ++ ys) ≡ items_in b rules xs ++ items_in b rules ys
  items_in-append [] ys = refl
  items_in-append (x ∷ xs) ys = grind (arith, common_steps, items_of, items_in, items_in-append xs ys)

  -- past the first span
  pub past_first : (span : Span) (rest : List Span) (n : ℕ) → length (items_of b rules span) ≤ n
      → drop (n - length (items_of b rules span)) (items_in b rules rest) ≡ drop n (items_in b rules (span ∷ rest))
  past_first span rest n far = grind (arith, common_steps, items_of, items_in, drop-append-add)

-- where something is left, it is given
pub gives_some : (items left : List Item) (given : Option Item) → 0 < length items
    → MatchOption given (items ≡ []) (λ item. items ≡ item ∷ left) → left ≡ drop 1 items
gives_some items left given some gives = grind (arith, common_steps, drop)

module _ (b : Signal) (rules : RuleNumbers) where
  -- the items of one span more
  pub items_in-push : (spans : List Span) (span : Span) → items_in b rules (spans ++ span ∷ []) ≡ items_in b rules spans ++ items_of b rules span
  items_in-push spans span = grind (arith, common_steps, items_in-append, items_in, append-nil, items_of)

  -- spans with those of a list after them
  pub spans-behind : (spans more after : List Span) (len n total : ℕ) → AreSpans b rules spans len → All (IsSpan b rules) more → after ≡ spans ++ more
      → total ≡ len + n → n ≡ length (items_in b rules more) → AreSpans b rules after total
  spans-behind spans more after len n total are all after_is total_is n_is = grind (arith, common_steps, items_in-append, length-append, items_in)

  -- and with one after them
  pub spans-push : (spans after : List Span) (span : Span) (len n total : ℕ) → AreSpans b rules spans len → IsSpan b rules span → after ≡ spans ++ span ∷ []
      → total ≡ len + n → n ≡ length (items_of b rules span) → AreSpans b rules after total
  spans-push spans after span len n total are is after_is total_is n_is =
      spans-behind spans (span ∷ []) after len n total are (All-cons (IsSpan b rules) span [] is (All-nil (IsSpan b rules))) after_is total_is
      (n_is ∙ sym (ap (λ (is : List Item). length is) (append-nil (items_of b rules span))))

-- two lists of one recording and rules
pub alike : (b c : Signal) (rules numbers : RuleNumbers) (xs ys : List Item) (mine theirs : ItemsOf) → listed b rules xs ≡ mine → listed c numbers ys ≡ theirs
    → theirs.source ≡ mine.source → theirs.rules ≡ mine.rules → (c ≡ b) × (numbers ≡ rules)
alike b c rules numbers xs ys mine theirs is are source same = grind (arith, common_steps, listed)

-- spans of one recording and rules that are another's
pub over : (b c : Signal) (rules numbers : RuleNumbers) (spans : List Span) (len : ℕ) → b ≡ c → rules ≡ numbers → AreSpans b rules spans len
    → AreSpans c numbers spans len
over b c rules numbers spans len source same are = grind (arith, common_steps)

-- Spans of which some items are passed over.

-- where an item is asked for, all but the first are left
pub one_given : (items left : List Item) (given : Option Item) → YieldsFirst (λ (is : List Item). is) items given left → left ≡ drop 1 items
one_given items left given gives = grind (arith, common_steps, drop)

module _ (b : Signal) (rules : RuleNumbers) where
  -- the spans after others, the first of which is a part of one
  pub behind-past : (before more after : List Span) (span rest : Span) (others : List Span) (left : ℕ) → more ≡ span ∷ others
      → after ≡ (before ++ rest ∷ []) ++ others
      → All (IsSpan b rules) more → IsInFirst b rules more left
      → (IsSpan b rules span → left < length (items_of b rules span) → IsPast b rules span left rest)
      → AreBehind b rules before after (drop left (items_in b rules more))
  behind-past before more after span rest others left more_is after_is all first past =
      let are = subst (λ (spans : List Span). All (IsSpan b rules) spans) more_is all in
      let few = first span others more_is in
      let is = past (All-head (IsSpan b rules) span others are) few in
      record {
        more = rest ∷ others;
        same = after_is ∙ append_assoc before (rest ∷ []) others;
        all = All-cons (IsSpan b rules) rest others is.is_span (All-tail (IsSpan b rules) span others are);
        given = ap (λ (items : List Item). items ++ items_in b rules others) is.items
            ∙ sym (drop-append-le left (items_of b rules span) (items_in b rules others) (omega (arith, few)))
            ∙ ap (λ (spans : List Span). drop left (items_in b rules spans)) (sym more_is);
      }

  -- the items of others from number `first` on are appended
  pub items_after : (spans theirs rest after : List Span) (first left : ℕ) → IsAt b rules theirs first rest left
      → AreBehind b rules spans after (drop left (items_in b rules rest))
      → items_in b rules after ≡ items_in b rules spans ++ drop first (items_in b rules theirs)
  items_after spans theirs rest after first left at behind = grind (arith, common_steps, items_in, items_in-append)

  pub spans_after : (spans theirs rest after : List Span) (len others n total first left : ℕ) → AreSpans b rules spans len
      → AreSpans b rules theirs others → IsAt b rules theirs first rest left
      → AreBehind b rules spans after (drop left (items_in b rules rest)) → n ≡ others - first → total ≡ len + n
      → AreSpans b rules after total
  spans_after spans theirs rest after len others n total first left are have at behind n_is total_is = grind (arith, common_steps, spans-behind, length-drop, items_in, drop, behind.more, behind.all, behind.same, have.count, behind.given, at.same, spans-behind b rules spans behind.more after len n total are behind.all behind.same total_is (omega (arith, n_is, have.count, ap (λ (is : List Item). length is) (behind.given ∙ at.same), length-drop first (items_in b rules theirs))), length-drop first (items_in b rules theirs))

-- How many items come before a span, and which come from it on.
module _ (b : Signal) (rules : RuleNumbers) where
  -- the items before span number k, and those from it on
  pub in_two : (spans : List Span) (k : ℕ) → items_in b rules (take k spans) ++ items_in b rules (drop k spans) ≡ items_in b rules spans
  in_two spans k = sym (items_in-append b rules (take k spans) (drop k spans)) ∙ ap (λ (ss : List Span). items_in b rules ss) (take-append-drop k spans)

  pub counted_in_two : (spans : List Span) (k : ℕ) → length (items_in b rules (take k spans)) + length (items_in b rules (drop k spans)) ≡ length (items_in b rules spans)
  counted_in_two spans k = grind (arith, common_steps, length-append, items_in, take, drop, in_two, length-append (items_in b rules (take k spans)) (items_in b rules (drop k spans)), take k spans, drop k spans, in_two spans k)

  -- before the next span
  pub before_next : (spans : List Span) (k : ℕ) (d : Span) → k < length spans
      → length (items_in b rules (take (k + 1) spans)) ≡ length (items_in b rules (take k spans)) + length (items_of b rules (get_or spans k d))
  before_next spans k d inside = grind (arith, common_steps, items_in, take_more, items_in-push, length-append, items_of)

  -- and counted in a word, which holds the number of all
  pub counted_next : (spans : List Span) (k : ℕ) (d : Span) (before n sum : ℕ) → k < length spans → before ≡ length (items_in b rules (take k spans))
      → n ≡ length (items_of b rules (get_or spans k d)) → length (items_in b rules spans) < 2 ^ 64 → sum ≡ min (before + n) (2 ^ 64 - 1)
      → sum ≡ length (items_in b rules (take (k + 1) spans))
  counted_next spans k d before n sum inside before_is n_is few sum_is = grind (arith, common_steps, items_in, before_next, counted_in_two, min-eq_left)

  -- a place that is looked for from a span on
  pub from_start : (spans rest : List Span) (k before from left : ℕ) → before ≡ length (items_in b rules (take k spans)) → before ≤ from
      → IsAt b rules (drop k spans) (from - before) rest left → IsAt b rules spans from rest left
  from_start spans rest k before from left is early at = grind (arith, common_steps, items_in, drop-append-add, in_two, counted_in_two)

-- the same of a list
pub found_at : (items : ItemsOf) (b : Signal) (rules : RuleNumbers) (spans rest : List Span) (k before from left : ℕ) → listed b rules (items_in b rules spans) ≡ items
    → All (IsSpan b rules) spans → before ≡ length (items_in b rules (take k spans)) → before ≤ from
    → (All (IsSpan b rules) (take (length spans - k) (drop k spans)) → IsAt b rules (take (length spans - k) (drop k spans)) (from - before) rest left)
    → IsFound items from rest left
found_at items b rules spans rest k before from left same all is early at = grind (arith, common_steps, take, drop, length-drop, take-length, from_start, listed, items_in, take (length spans - k) (drop k spans), drop k spans, length-drop k spans, take-length (drop k spans), from_start b rules spans rest k before from left is early ((subst (λ (part : List Span). All (IsSpan b rules) part → IsAt b rules part (from - before) rest left) (ap (λ (n : ℕ). take n (drop k spans)) (sym (length-drop k spans)) ∙ take-length (drop k spans)) at) (All-drop (IsSpan b rules) k spans all)))

-- Parts that are filled with the items that come next.

-- with more after both
pub with_more : (a b c d more : List Item) → a ++ b ≡ c ++ d → a ++ (b ++ more) ≡ c ++ (d ++ more)
with_more a b c d more is = sym (append_assoc a b more) ∙ ap (λ (items : List Item). items ++ more) is ∙ append_assoc c d more

-- the first span's items are appended, and those of the decoder come before the other spans'
pub span_taken : (b : Signal) (rules : RuleNumbers) (span : Span) (others rest : List Span) (all before left now after : List Item)
    → all ≡ before ++ (left ++ items_in b rules rest) → left ≡ [] → rest ≡ span ∷ others → before ++ items_of b rules span ≡ after ++ now
    → all ≡ after ++ (now ++ items_in b rules others)
span_taken b rules span others rest all before left now after is none rest_is taken = grind (arith, common_steps, items_in, with_more, items_of)

-- n of the items, the first of which are in a part
pub part_taken : (n : ℕ) (items part rest : List Item) → items ≡ part ++ rest → length part ≤ n → take n items ≡ part ++ take (n - length part) rest
part_taken n items part rest is few = grind (arith, common_steps, take, take-append-add, take-append-add part rest (n - length part))

-- A range of a list.

-- how long it is
pub range_len : {X : Type 0} (xs : List X) (from to : ℕ) → from ≤ to → to ≤ length xs → length (slice_range xs from to) ≡ to - from
range_len xs from to order within = grind (arith, common_steps)

-- the first element of a range of one
pub range_first : {X : Type 0} (xs : List X) (i : ℕ) (given : Option X) (left : List X) → i < length xs
    → YieldsFirst (λ (ys : List X). ys) (slice_range xs i (i + 1)) given left → given ≡ slice_get xs i
range_first xs i None left within gives = grind (arith, common_steps, range_len, slice_range, slice_get, gives.0, range_len xs i (i + 1) (omega arith) (omega (arith, within)))
range_first xs i (Some x) left within gives = grind (arith, common_steps, slice_get-get_or, get_or, get_or-drop, get_or-take, drop, slice_range, slice_get, slice_get-get_or xs i x within, get_or-drop i xs 0 x, get_or-take (i + 1 - i) (drop i xs) 0 x (omega arith), drop i xs)

-- past the end there is none
pub range_past : {X : Type 0} (xs : List X) (i : ℕ) → length xs ≤ i → None ≡ slice_get xs i
range_past xs i far = sym (slice_get_past xs i far)
