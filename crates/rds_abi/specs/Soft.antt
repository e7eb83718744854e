-- A stream of symbols, whose bits are followed as those of `Stream`, and whose groups are read again from the symbols. `push_soft` cites
-- it. This project's rules.
use Rattle.std.specs.Prelude.{◌≡◌, ℕ, ◌+◌, ◌-◌, ◌*◌, ◌/◌, ◌^◌, ◌<◌, ◌≤◌, ◌⊎◌, List, ◌++◌, drop, length, map, max, min, replicate, take, ℤ, pos}
use Rattle.std.specs.{List.range_with_len, Int.Digits.number_from_digits}
use Rattle.rds_stream.specs.Recording.{Signal, length_of}
use Rattle.rds_sync.specs.declared.item.Item.{Item, TheVariants.Acquired, TheVariants.Group, TheVariants.LostLock}
use Rattle.rds_live.specs.{StreamDecoder.HasHeard, StreamDecoder.Terms, StreamDecoder.complete, StreamDecoder.most_kept, StreamDecoder.signal_of, Gaps.gaps_within, Next.completed}
use Rattle.rds_soft.specs.{declared.soft_item.SoftItem.SoftItem, declared.soft_item.SoftItem.TheVariants.Acquired as SoftAcquired, declared.soft_item.SoftItem.TheVariants.Group as InSoft, declared.soft_item.SoftItem.TheVariants.LostLock as SoftLostLock, Symbols.hard_bit, ReadAgain.group_again, ReadAgain.item_again}
use Rattle.rds_abi.specs.{Asked.IsFilled, Asked.IsTooMuch, Stream.IsFollowed, Stream.RefusesPush, Stream.items_after, Stream.place_after, Stream.stream_of, Stream.terms_of, Layout.item_in_c, Layout.soft_item_in_c, declared.layout.RdsGap.RdsGap, declared.layout.RdsItem.RdsItem, declared.layout.RdsRules.RdsRules, declared.layout.RdsSoft.RdsSoft, declared.refusal.Refusal.Refusal, declared.refusal.Refusal.TheVariants.MarginRange}

-- ---- symbols

-- eight bits between nine symbols, from number `first` on, as a byte, and all whole bytes of bits of symbols
abbrev pub byte_of : List ℤ → ℕ → ℕ
byte_of symbols first = number_from_digits 2 (map (hard_bit symbols) (range_with_len first 8))

abbrev pub bytes_of : List ℤ → List ℕ
bytes_of symbols = map (λ k. byte_of symbols (8 * k)) (range_with_len 0 ((length symbols - 1) / 8))

-- how many of the last symbols are kept: those of the bytes that are
abbrev pub symbols_kept : ℕ
symbols_kept = 240

-- these symbols were heard, the last of them not taken yet: it tells only the bit before it. Those before the first are erasures
pub record HasHeardSoft (terms : Terms) (s : RdsSoft) (symbols : List ℤ) : Type 0 where
  pub bits : HasHeard (stream_of terms s.stream) (bytes_of symbols)
  pub one_more : length symbols ≡ s.stream.place + 1
  pub last : s.symbols ≡ take symbols_kept (drop s.stream.place (replicate symbols_kept (pos 0) ++ symbols))

-- how many bytes are taken at once: as many as there are and as surely have room, or one, and at most 960
abbrev pub byte_count : List ℤ → ℕ → ℕ
byte_count symbols room = min ((length symbols - 1) / 8) (max 1 (min 960 (room / 16)))

-- the symbols of these bytes, and the symbol after them
abbrev pub piece_of : List ℤ → ℕ → List ℤ
piece_of symbols room = take (8 * byte_count symbols room + 1) symbols

-- and their bytes
abbrev pub bytes_taken : List ℤ → ℕ → List ℕ
bytes_taken symbols room = bytes_of (piece_of symbols room)

-- after the symbols taken the numbers are those of a stream that heard them after what it had heard
abbrev pub HearsOnSoft : Terms → RdsSoft → RdsSoft → List ℤ → ℕ → Type 0
HearsOnSoft terms old new symbols taken = (before : List ℤ) → 0 < length symbols
    → HasHeardSoft terms old (before ++ take 1 symbols) → HasHeardSoft terms new (before ++ take (taken + 1) symbols)

-- ---- items

-- the items of these symbols' stream, read again from them
abbrev pub read_again : Terms → ℕ → List ℤ → List Item → List SoftItem
read_again terms margin symbols items = map (item_again (signal_of terms.gaps (bytes_of symbols)) symbols margin) items

-- the items that the symbols taken complete are written, read again: whatever comes later, they are those of the whole stream
abbrev pub AreReadAgain : Terms → ℕ → RdsSoft → List ℤ → ℕ → List RdsItem → List RdsItem → ℕ → Type 0
AreReadAgain terms margin s symbols taken old new count = (before later : List ℤ) → 0 < length symbols
    → HasHeardSoft terms s (before ++ take 1 symbols)
    → let heard = before ++ take (taken + 1) symbols in
    (items : List Item)
    × (complete terms (bytes_of (before ++ take 1 symbols)) ++ items ≡ complete terms (bytes_of heard))
    × IsFilled (map soft_item_in_c (read_again terms margin (heard ++ later) items)) old new
    × (count ≡ length items)

-- an item of a stream, read again from a part that begins at place d
abbrev pub again_in : Signal → List ℤ → ℕ → ℕ → Item → SoftItem
again_in part symbols d margin (Acquired a x) = SoftAcquired a x
again_in part symbols d margin (LostLock a) = SoftLostLock a
again_in part symbols d margin (Group g) =
    InSoft (record (group_again part symbols margin (g.place - d) g.blocks) { place = g.place })

-- the items that these bytes complete are written, read again from the part of the stream that is known, by the stream's gaps. The
-- part's bits are not read
abbrev pub IsWrittenAgain : Terms → List (ℕ × ℕ) → ℕ → RdsSoft → List ℤ → List ℕ → List RdsItem → List RdsItem → Type 0
IsWrittenAgain terms gaps margin s piece bytes old new = let kept : ℕ = min most_kept (s.stream.place / 8) in
    (part : Signal) × (length_of part ≡ 8 * (kept + length bytes))
    × (part.gaps ≡ gaps_within gaps (s.stream.place - 8 * kept) (8 * (kept + length bytes)))
    × IsFilled
    (map (λ item. soft_item_in_c (again_in part (drop (symbols_kept - 8 * kept) (s.symbols ++ piece)) (s.stream.place - 8 * kept) margin item))
    (completed (stream_of terms s.stream) bytes)) old new

-- ---- errors

abbrev pub IsMargin : ℕ → Type 0
IsMargin margin = (1 ≤ margin) × (margin ≤ 127)

abbrev pub RefusesMargin : ℕ → Refusal → Type 0
RefusesMargin margin refusal = (IsMargin margin → ⊥) × (refusal ≡ MarginRange)

-- nothing of symbols whose bits are these bytes
pub record IsPushed (rules : RdsRules) (gaps : List RdsGap) (margin : ℕ) (s : RdsSoft) (bytes : List ℕ) : Type 0 where
  pub margin_is : IsMargin margin
  pub followed : IsFollowed rules gaps s.stream
  pub fits : place_after s.stream bytes ≤ 2 ^ 36

-- the margin is looked at first, and then what `push` looks at
abbrev pub RefusesSoft : RdsRules → List RdsGap → ℕ → RdsSoft → List ℕ → Refusal → Type 0
RefusesSoft rules gaps margin s bytes refusal =
    RefusesMargin margin refusal ⊎ (IsMargin margin × RefusesPush rules gaps s.stream bytes refusal)

-- the items of the symbols that would be taken have no room, and `new` is their number, or the call is refused
abbrev pub RefusesTakenSoft : RdsRules → List RdsGap → ℕ → RdsSoft → List ℤ → ℕ → ℕ → ℕ → Refusal → Type 0
RefusesTakenSoft rules gaps margin s symbols room old new refusal =
    (IsPushed rules gaps margin s (bytes_taken symbols room)
    × IsTooMuch (map item_in_c (items_after (terms_of rules gaps) s.stream (bytes_taken symbols room))) room refusal new)
    ⊎ (RefusesSoft rules gaps margin s (bytes_taken symbols room) refusal × (new ≡ old))
