-- A stream as a decoder has it, and as its numbers say it.
use Rattle.rds_abi.proofs.Shared.{common_steps, ◌≡◌, ◌+◌, ◌*◌, ◌/◌, ◌^◌, ◌<◌, ◌≤◌, ◌++◌, ◌⊎◌, ℕ, List, Option, arith, length, min, subst, take, length-map, group_item, Item, HasHeard, LiveOf, Terms, complete, most_kept, report_at, report_of, AreClosed, AreLeft, AreTooMany, IsFollowed, IsLeft, RefusesEnd, RefusesLast, RefusesPush, RefusesStream, place_after, stream_of, terms_of, AreGiven, state_of, item_in_c, totals_in_c, RdsGap, RdsRules, RdsStream, RdsState, Refusal, SmallRoom, TooLong}
use Rattle.rds_abi.specs.declared.layout.RdsTotals.{RdsTotals}
use Rattle.rds_sync.specs.declared.item.Group.{Group as GroupRecord}

-- what was laid out says what it was laid out of
pub laid_out : (live : LiveOf) (magic version : ℕ) (rules : RdsRules) (place : ℕ) (state : RdsState) (totals : RdsTotals) (tail : List ℕ)
    → place ≡ live.place → state_of state ≡ live.state → totals ≡ totals_in_c live.totals
    → take (length live.tail) tail ≡ live.tail → length live.tail ≡ min most_kept (live.place / 8)
    → stream_of live.terms (record { magic = magic; version = version; rules = rules; place = place; state = state; totals = totals; tail = tail; reserved = 0 }) ≡ live
laid_out live magic version rules place state totals tail place_is state_is totals_are tail_is kept = grind (arith, common_steps)

-- the numbers laid out of a later decoder give it back, by the terms that it began with
pub says_next : (terms : Terms) (s laid : RdsStream) (live next : LiveOf) → live ≡ stream_of terms s → next.terms ≡ live.terms
    → stream_of next.terms laid ≡ next → stream_of terms laid ≡ next
says_next terms s laid live next is same says = grind (arith, common_steps)

-- what is refused of bytes, by rules that are in range
pub refused_push : (rules : RdsRules) (gaps : List RdsGap) (s : RdsStream) (bytes : List ℕ) (refusal : Refusal) (TooMany Same : Type 0) → AreGiven rules
    → (IsLeft (terms_of rules gaps) s × (place_after s bytes ≤ 2 ^ 36) × TooMany)
    ⊎ ((RefusesStream (terms_of rules gaps) s refusal ⊎ (IsLeft (terms_of rules gaps) s × (2 ^ 36 < place_after s bytes) × (refusal ≡ TooLong))) × Same)
    → (IsFollowed rules gaps s × (place_after s bytes ≤ 2 ^ 36) × TooMany) ⊎ (RefusesPush rules gaps s bytes refusal × Same)
refused_push rules gaps s bytes r TooMany Same range refused = grind (arith, common_steps)

-- and of its last bits
pub refused_last : (rules : RdsRules) (gaps : List RdsGap) (s : RdsStream) (bytes : List ℕ) (bits : ℕ) (refusal : Refusal) → AreGiven rules
    → RefusesStream (terms_of rules gaps) s refusal ⊎ (IsLeft (terms_of rules gaps) s × RefusesLast s bytes bits refusal)
    → RefusesEnd rules gaps s bytes bits refusal
refused_last rules gaps s bytes bits r range refused = grind (arith, common_steps)

module _ (terms : Terms) (s : RdsStream) (live : LiveOf) (is : live ≡ stream_of terms s) where
  -- the group that its end closes
  pub closed : (group : Option GroupRecord)
      → ((bytes : List ℕ) → HasHeard live bytes → complete live.terms bytes ++ group_item group ≡ report_of live.terms bytes)
      → AreClosed terms s (group_item group)
  closed group gives = grind (arith, common_steps)

  -- the items up to its end, and the group that this closes
  pub left : (bytes : List ℕ) (bits : ℕ) (items : List Item)
      → ((before : List ℕ) → HasHeard live before → complete live.terms before ++ items ≡ report_at live.terms (before ++ bytes) (8 * length before + bits))
      → AreLeft terms s bytes bits items
  left bytes bits items gives =
      subst (λ (l : LiveOf). (before : List ℕ) → HasHeard l before → complete l.terms before ++ items ≡ report_at l.terms (before ++ bytes) (8 * length before + bits)) is gives

module _ (wanted : List Item → Type 0) (items : List Item) (found : wanted items) (count : ℕ) (told : count ≡ length items) where
  -- items that have no room
  pub too_many : (room : ℕ) → room < length items → AreTooMany wanted room SmallRoom count
  too_many room small = grind (arith, common_steps, length-map items item_in_c)
