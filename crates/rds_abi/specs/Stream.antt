-- A stream that is followed chunk by chunk, from the plain numbers that the caller keeps of it. `push`, `finish` and `finish_with` cite
-- it. This project's rules.
use Rattle.std.specs.Prelude.{◌≡◌, ℕ, ◌+◌, ◌-◌, ◌*◌, ◌/◌, ◌^◌, ◌<◌, ◌≤◌, ◌⊎◌, ◌++◌, List, [], length, map, min, replicate, take, ⊤}
use Rattle.rds_stream.specs.Recording.{AreGaps}
use Rattle.rds_sync.specs.{Rules.RuleNumbers, Totals.totals_of, declared.item.Item.Item, declared.totals.Totals.Totals}
use Rattle.rds_live.specs.{Gaps.gaps_within, StreamDecoder.HasHeard, StreamDecoder.IsStreamDecoder, StreamDecoder.LiveOf, StreamDecoder.Terms, StreamDecoder.complete, StreamDecoder.most_kept, StreamDecoder.report_at, StreamDecoder.report_of, Next.completed, Next.live_next}
use Rattle.rds_abi.specs.{Asked.AreGiven, Asked.IsFilled, Asked.IsTooMuch, Asked.RefusesGiven, Asked.gaps_of, Asked.rules_of, Ranges.loss_in_c, Ranges.searching_in_c, Ranges.state_in_c, Ranges.state_of, Layout.item_in_c, Layout.totals_in_c, declared.layout.RdsGap.RdsGap, declared.layout.RdsRules.RdsRules, declared.layout.RdsStream.RdsStream, declared.layout.RdsItem.RdsItem, declared.layout.RdsTotals.RdsTotals, declared.refusal.Refusal.Refusal, declared.refusal.Refusal.TheVariants.BadGaps, declared.refusal.Refusal.TheVariants.BitsPastBytes, declared.refusal.Refusal.TheVariants.OutOfMemory, declared.refusal.Refusal.TheVariants.TooLong, declared.refusal.Refusal.TheVariants.UnlawfulState}

-- ---- the meaning of the numbers

-- totals, field by field
abbrev pub totals_from_c : RdsTotals → Totals
totals_from_c t = record {
  valid = t.valid;
  bursts = t.bursts;
  lost = t.lost;
  bits = t.bits;
  groups = t.groups;
  complete = t.complete;
  acquired = t.acquired;
  losses = t.losses;
}

-- the terms by which a stream is decoded
abbrev pub terms_of : RdsRules → List RdsGap → Terms
terms_of rules gaps = record { rules = rules_of rules; gaps = gaps_of gaps }

-- the decoder's view of the stream: the tail is all the bytes that were heard, or the last 30
abbrev pub stream_of : Terms → RdsStream → LiveOf
stream_of terms s = record {
  terms = terms;
  tail = take (min most_kept (s.place / 8)) s.tail;
  place = s.place;
  state = state_of s.state;
  totals = totals_from_c s.totals;
}

-- rules as C has them
abbrev pub rules_in_c : RuleNumbers → RdsRules
rules_in_c rules = record {
  burst = rules.burst;
  reach = rules.reach;
  loss = (loss_in_c rules.loss).0;
  of = (loss_in_c rules.loss).1;
  reserved = replicate 4 0;
}

-- and as such numbers: by the first a stream is known, and the order of bytes; zeros follow the tail; so equal streams are equal numbers
abbrev pub stream_in_c : LiveOf → RdsStream
stream_in_c live = record {
  magic = 0x31534452;
  version = 1;
  rules = rules_in_c live.terms.rules;
  place = live.place;
  state = state_in_c live.terms.rules live.state;
  totals = totals_in_c live.totals;
  tail = live.tail ++ replicate (32 - length live.tail) 0;
  reserved = 0;
}

-- a stream of which nothing was heard yet: all 0
abbrev pub unheard : RdsStream
unheard = record {
  magic = 0;
  version = 0;
  rules = record { burst = 0; reach = 0; loss = 0; of = 0; reserved = replicate 4 0 };
  place = 0;
  state = searching_in_c;
  totals = totals_in_c (totals_of []);
  tail = replicate 32 0;
  reserved = 0;
}

-- the numbers around the state of a stream are those that a call writes
abbrev pub IsNamed : RuleNumbers → RdsStream → Type 0
IsNamed rules s =
    (s.magic ≡ 0x31534452) × (s.version ≡ 1) × (s.rules ≡ rules_in_c rules) × (s.totals.reserved ≡ replicate 4 0) × (s.reserved ≡ 0)

-- a stream that a call can have left: a decoder can know what the numbers say, and they are those that a call writes of it by
-- these rules, or all 0
pub record IsLeft (terms : Terms) (s : RdsStream) : Type 0 where
  pub live : IsStreamDecoder (stream_of terms s)
  pub laid : (s ≡ unheard) ⊎ (s ≡ stream_in_c (stream_of terms s))

-- the numbers are those that a call writes of the stream
abbrev pub IsLaid : Terms → RdsStream → Type 0
IsLaid terms s = s ≡ stream_in_c (stream_of terms s)

-- the numbers before and after these bytes: of what was heard, and of any stream
abbrev pub HearsOn : Terms → RdsStream → RdsStream → List ℕ → Type 0
HearsOn terms old new bytes =
    (before : List ℕ) → HasHeard (stream_of terms old) before → HasHeard (stream_of terms new) (before ++ bytes)

abbrev pub GoesOn : Terms → RdsStream → RdsStream → List ℕ → Type 0
GoesOn terms old new bytes = stream_of terms new ≡ live_next (stream_of terms old) bytes

-- the items that the decoder completes with these bytes
abbrev pub items_after : Terms → RdsStream → List ℕ → List Item
items_after terms s bytes = completed (stream_of terms s) bytes

-- the same rules, and gaps by which the same is heard in the places from `before` on, up to `len` of them
pub record IsNear (all near : Terms) (before len : ℕ) : Type 0 where
  pub rules : near.rules ≡ all.rules
  pub gaps : (n : ℕ) → n ≤ len → gaps_within near.gaps before n ≡ gaps_within all.gaps before n
  pub may : AreGaps (2 ^ 36) all.gaps
  pub some : AreGaps (2 ^ 36) near.gaps

-- ---- errors

-- gaps that no stream may have
abbrev pub RefusesGaps : List RdsGap → Refusal → Type 0
RefusesGaps gaps BadGaps = AreGaps (2 ^ 36) (gaps_of gaps) → ⊥
RefusesGaps gaps OutOfMemory = ⊤
RefusesGaps gaps other = ⊥

-- the rules first, and then the gaps
abbrev pub RefusesTold : RdsRules → List RdsGap → Refusal → Type 0
RefusesTold rules gaps refusal = RefusesGiven rules refusal ⊎ (AreGiven rules × RefusesGaps gaps refusal)

-- gaps that no stream may have, and then numbers that no call can have left
abbrev pub RefusesStream : Terms → RdsStream → Refusal → Type 0
RefusesStream terms s BadGaps = AreGaps (2 ^ 36) terms.gaps → ⊥
RefusesStream terms s UnlawfulState = AreGaps (2 ^ 36) terms.gaps × (IsLeft terms s → ⊥)
RefusesStream terms s OutOfMemory = ⊤
RefusesStream terms s other = ⊥

-- the rules first, and then the stream
abbrev pub RefusesFollowed : RdsRules → List RdsGap → RdsStream → Refusal → Type 0
RefusesFollowed rules gaps s refusal =
    RefusesGiven rules refusal ⊎ (AreGiven rules × RefusesStream (terms_of rules gaps) s refusal)

-- nothing of it
pub record IsFollowed (rules : RdsRules) (gaps : List RdsGap) (s : RdsStream) : Type 0 where
  pub given : AreGiven rules
  pub left : IsLeft (terms_of rules gaps) s

-- how many bits were heard after these bytes too
abbrev pub place_after : RdsStream → List ℕ → ℕ
place_after s bytes = s.place + 8 * length bytes

-- the stream and its terms are checked first, and then how long the stream grows
abbrev pub RefusesPush : RdsRules → List RdsGap → RdsStream → List ℕ → Refusal → Type 0
RefusesPush rules gaps s bytes refusal =
    RefusesFollowed rules gaps s refusal
    ⊎ (IsFollowed rules gaps s × (2 ^ 36 < place_after s bytes) × (refusal ≡ TooLong))

-- by terms that are given: the items that the bytes `first` complete have no room, and `count` is their number; or the stream is refused or
-- grows too long, and `Same` says that the count is as before
abbrev pub RefusesOn : Terms → RdsStream → List ℕ → List ℕ → ℕ → ℕ → Type 0 → Refusal → Type 0
RefusesOn terms s bytes first room count Same refusal =
    (IsLeft terms s × (place_after s bytes ≤ 2 ^ 36) × IsTooMuch (map item_in_c (items_after terms s first)) room refusal count)
    ⊎ ((RefusesStream terms s refusal ⊎ (IsLeft terms s × (2 ^ 36 < place_after s bytes) × (refusal ≡ TooLong))) × Same)

-- the items of the first byte have no room, and `new` is how many they are, or the count is as before
abbrev pub RefusesTaken : RdsRules → List RdsGap → RdsStream → List ℕ → ℕ → ℕ → ℕ → Refusal → Type 0
RefusesTaken rules gaps s bytes room old new refusal =
    (IsFollowed rules gaps s × (place_after s bytes ≤ 2 ^ 36)
    × IsTooMuch (map item_in_c (items_after (terms_of rules gaps) s (take 1 bytes))) room refusal new)
    ⊎ (RefusesPush rules gaps s bytes refusal × (new ≡ old))

-- the last bits of a stream: how long it grows, and then what the bytes hold
module _ (s : RdsStream) (bytes : List ℕ) (bits : ℕ) where
  abbrev pub RefusesLast : Refusal → Type 0
  RefusesLast TooLong = 2 ^ 36 < s.place + bits
  RefusesLast BitsPastBytes = (s.place + bits ≤ 2 ^ 36) × (8 * length bytes < bits)
  RefusesLast other = ⊥

  -- nothing of them
  abbrev pub AreLast : Type 0
  AreLast = (s.place + bits ≤ 2 ^ 36) × (bits ≤ 8 * length bytes)

-- the stream and its terms are checked first
abbrev pub RefusesEnd : RdsRules → List RdsGap → RdsStream → List ℕ → ℕ → Refusal → Type 0
RefusesEnd rules gaps s bytes bits refusal =
    RefusesFollowed rules gaps s refusal ⊎ (IsFollowed rules gaps s × RefusesLast s bytes bits refusal)

-- ---- items

-- the items that these bytes complete, whatever was heard before them
abbrev pub AreCompleted : Terms → RdsStream → List ℕ → List Item → Type 0
AreCompleted terms s bytes items =
    (before : List ℕ) → HasHeard (stream_of terms s) before → complete terms (before ++ bytes) ≡ complete terms before ++ items

-- the group in progress at the end of the stream, if there is one: the items that were complete and this are the report's
abbrev pub AreClosed : Terms → RdsStream → List Item → Type 0
AreClosed terms s items =
    (length items ≤ 1)
    × ((bytes : List ℕ) → HasHeard (stream_of terms s) bytes → complete terms bytes ++ items ≡ report_of terms bytes)

-- the items that the first bits of these bytes complete, and after them the group in progress if the stream ends there
abbrev pub AreLeft : Terms → RdsStream → List ℕ → ℕ → List Item → Type 0
AreLeft terms s bytes bits items =
    (before : List ℕ) → HasHeard (stream_of terms s) before
    → complete terms before ++ items ≡ report_at terms (before ++ bytes) (8 * length before + bits)

-- all bytes were taken, or as many as have room: the items of one byte more have none
abbrev pub IsMostTaken : LiveOf → List ℕ → ℕ → ℕ → Type 0
IsMostTaken live bytes room taken =
    (taken ≡ length bytes)
    ⊎ ((0 < taken) × (taken < length bytes) × (room < length (completed live (take (taken + 1) bytes))))

-- the room begins with such items, and is unchanged after them, and the count is theirs
abbrev pub AreWritten : (List Item → Type 0) → List RdsItem → List RdsItem → ℕ → Type 0
AreWritten wanted old new count =
    (items : List Item) × wanted items × IsFilled (map item_in_c items) old new × (count ≡ length items)

-- there are more of them than there is room for, and count is their number
abbrev pub AreTooMany : (List Item → Type 0) → ℕ → Refusal → ℕ → Type 0
AreTooMany wanted room refusal count = (items : List Item) × wanted items × IsTooMuch (map item_in_c items) room refusal count

-- the group that the stream's end closes has no room, or the stream is refused
abbrev pub RefusesClosed : RdsRules → List RdsGap → RdsStream → ℕ → ℕ → ℕ → Refusal → Type 0
RefusesClosed rules gaps s room old new refusal =
    (IsFollowed rules gaps s × AreTooMany (AreClosed (terms_of rules gaps) s) room refusal new)
    ⊎ (RefusesFollowed rules gaps s refusal × (new ≡ old))

-- the items up to an end after these bits have no room, or the stream or the bits are refused
abbrev pub RefusesLeft : RdsRules → List RdsGap → RdsStream → List ℕ → ℕ → ℕ → ℕ → ℕ → Refusal → Type 0
RefusesLeft rules gaps s bytes bits room old new refusal =
    (IsFollowed rules gaps s × AreLast s bytes bits × AreTooMany (AreLeft (terms_of rules gaps) s bytes bits) room refusal new)
    ⊎ (RefusesEnd rules gaps s bytes bits refusal × (new ≡ old))

-- the totals of the report of all that was heard, and of these bits after it
abbrev pub AreTotals : Terms → RdsStream → RdsTotals → Type 0
AreTotals terms s totals =
    (bytes : List ℕ) → HasHeard (stream_of terms s) bytes → totals ≡ totals_in_c (totals_of (report_of terms bytes))

abbrev pub AreTotalsAt : Terms → RdsStream → List ℕ → ℕ → RdsTotals → Type 0
AreTotalsAt terms s bytes bits totals = (before : List ℕ) → HasHeard (stream_of terms s) before
    → totals ≡ totals_in_c (totals_of (report_at terms (before ++ bytes) (8 * length before + bits)))
