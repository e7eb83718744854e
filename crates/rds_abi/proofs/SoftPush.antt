-- What is heard and written of symbols that are pushed.
use Rattle.rds_abi.proofs.Shared.{common_steps, ◌≡◌, ◌+◌, ◌-◌, ◌*◌, ◌/◌, ◌^◌, ◌<◌, ◌≤◌, ◌++◌, ◌⊎◌, ◌∙◌, ℕ, List, ap, ap₂, arith, drop, length, map, min, refl, subst, sym, take, drop-drop, length-append, length-map, length-take, take-take, take_all, Signal, length_of, RunsGiveFewItems, IsInRange, Item, gaps_within, HasHeard, LiveOf, Terms, complete, most_kept, NextIsHeard, before_tail, completed, live_next, moved_back, part_with, run_next, IsFilled, IsFollowed, IsLeft, IsNear, RefusesOn, RefusesPush, place_after, stream_of, RdsGap, RdsItem, RdsRules, RdsStream, Refusal, SmallRoom, ℤ, drop-append-le, length-drop, signal_of, lawful-back, length-signal, soft_item_in_c, HasHeardSoft, IsMargin, IsPushed, IsWrittenAgain, RefusesSoft, again_in, byte_count, bytes_of, piece_of, read_again, symbols_kept, AcquisitionsAreLate, StepsAreLawful, AreSymbolsOf, run-inside, IsLawful}
use Rattle.rds_abi.{specs.declared.layout.RdsSoft.RdsSoft, proofs.Fitting.few-completed, proofs.NearStreams.are-completed, proofs.NearStreams.heard-next, proofs.NearStreams.left-near, proofs.NearStreams.pushed-after, proofs.NearStreams.pushed-completed, proofs.NearStreams.refused-near, proofs.SoftItems.items-same, proofs.SoftStreams.bytes-join, proofs.SoftStreams.erasures, proofs.SoftStreams.kept-on, proofs.SoftStreams.part-symbols, proofs.SoftStreams.symbols-alike, proofs.SoftSymbols.byte_count_of}
use Rattle.rds_live.proofs.Pieces.{back-on}

-- ---- the piece that is taken

-- these are the piece and its bytes, and the gaps near its part of the stream
pub record IsTaken (symbols : List ℤ) (room : ℕ) (all near : Terms) (s : RdsStream) (piece : List ℤ) (bytes : List ℕ) (from len : ℕ) : Type 0 where
  pub piece_is : piece ≡ piece_of symbols room
  pub count : (length piece - 1) / 8 ≡ byte_count symbols room
  pub bytes_are : bytes ≡ bytes_of piece
  pub near_is : IsNear all near from len
  pub from_is : from ≡ s.place - 8 * min most_kept (s.place / 8)
  pub len_is : len ≡ 8 * (min most_kept (s.place / 8) + length bytes)

module _ {symbols : List ℤ} {room : ℕ} {all near : Terms} {s : RdsStream} {piece : List ℤ} {bytes : List ℕ} {from len : ℕ}
    (t : IsTaken symbols room all near s piece bytes from len) where
  pub piece-bytes : bytes ≡ bytes_of (piece_of symbols room)
  piece-bytes = grind (arith, common_steps, t.bytes_are, t.piece_is)

  pub piece-many : length bytes ≡ byte_count symbols room
  piece-many = grind (arith, common_steps, t.bytes_are, byte_count_of piece, t.count)

  pub piece-taken : (count : ℕ) → length bytes ≡ count → piece ≡ take (8 * count + 1) symbols
  piece-taken count is = grind (arith, common_steps, t.piece_is, piece-many)

  pub piece-long : 0 < length symbols → length piece ≡ 8 * length bytes + 1
  piece-long some = grind (arith, common_steps, piece-taken (length bytes) refl, length-take (8 * length bytes + 1) symbols, piece-many)

  pub piece-first : take 1 piece ≡ take 1 symbols
  piece-first = grind (arith, common_steps, piece-taken (length bytes) refl, take-take 1 (8 * length bytes + 1) symbols)

  -- ---- by the gaps near it, and by all

  abbrev held : ℕ
  held = min most_kept (s.place / 8)

  most : length bytes ≡ min 8589934592 (length bytes)
  most = omega (arith, piece-many)

  is : IsNear all near (s.place - 8 * held) (8 * (held + min 8589934592 (length bytes)))
  is = grind (arith, common_steps, most, t.len_is, t.from_is, t.near_is)

  every : take (length bytes) bytes ≡ bytes
  every = take_all (length bytes) bytes (omega arith)

  pub all-left : (new : RdsStream) → IsLeft near new → IsLeft all new
  all-left new = left-near new is

  module _ (left : IsLeft near s) (fits : place_after s bytes ≤ 2 ^ 36) where
    pub all-completed : completed (stream_of near s) bytes ≡ completed (stream_of all s) bytes
    all-completed = grind (arith, common_steps, every, pushed-completed s bytes is left fits (length bytes))

    pub all-after : (new : RdsStream) → stream_of near new ≡ live_next (stream_of near s) bytes → stream_of all new ≡ live_next (stream_of all s) bytes
    all-after new after = grind (arith, common_steps, every, pushed-after s bytes is left fits (length bytes) new)

  pub all-refused : (r : Refusal) (space count : ℕ) (Same : Type 0) → RefusesOn near s bytes bytes space count Same r → RefusesOn all s bytes bytes space count Same r
  all-refused r space count Same refused = grind (arith, common_steps, all-left s, all-completed, refused-near s is r)

-- a margin that was looked at first
pub with-margin : (rules : RdsRules) (gaps : List RdsGap) (margin : ℕ) (s : RdsSoft) (bytes : List ℕ) (r : Refusal) (TooMany Same : Type 0) → IsMargin margin
    → (IsFollowed rules gaps s.stream × (place_after s.stream bytes ≤ 2 ^ 36) × TooMany) ⊎ (RefusesPush rules gaps s.stream bytes r × Same)
    → (IsPushed rules gaps margin s bytes × TooMany) ⊎ (RefusesSoft rules gaps margin s bytes r × Same)
with-margin rules gaps margin s bytes r TooMany Same is refused = grind (arith, common_steps)

-- ---- a stream that was heard

module _ (law : NextIsHeard) (all : Terms) (s : RdsSoft) (piece : List ℤ) (bytes : List ℕ) (range : IsInRange all.rules) (left : IsLeft all s.stream)
    (bytes_are : bytes ≡ bytes_of piece) (long : length piece ≡ 8 * length bytes + 1) (before : List ℤ)
    (h : HasHeardSoft all s (before ++ take 1 piece)) where
  abbrev place : ℕ
  place = s.stream.place

  taken : length before ≡ place
  taken = omega (arith, h.one_more, length-append before (take 1 piece), length-take 1 piece, long)

  joined : bytes_of (before ++ piece) ≡ bytes_of (before ++ take 1 piece) ++ bytes
  joined = grind (arith, common_steps, bytes-join before piece (place / 8), taken, left.live.whole, long, bytes_are)

  -- the stream after the piece
  pub soft-heard : (new : RdsSoft) → stream_of all new.stream ≡ live_next (stream_of all s.stream) bytes
      → new.symbols ≡ take symbols_kept (drop (8 * length bytes) (s.symbols ++ piece)) → HasHeardSoft all new (before ++ piece)
  soft-heard new after last =
      let on : new.stream.place ≡ place + 8 * length bytes = ap (λ (l : LiveOf). l.place) after in
      record {
        bits = subst (λ (bs : List ℕ). HasHeard (stream_of all new.stream) bs) (sym joined)
            (heard-next law all s.stream bytes range left new.stream after (bytes_of (before ++ take 1 piece)) h.bits);
        one_more = omega (arith, on, length-append before piece, taken, long);
        last = last
            ∙ ap (λ (xs : List ℤ). take symbols_kept (drop (8 * length bytes) xs)) (kept-on before place taken s.symbols (take 1 piece) piece h.last)
            ∙ ap (take symbols_kept) (drop-drop (8 * length bytes) place (erasures ++ (before ++ piece)))
            ∙ ap (λ (n : ℕ). take symbols_kept (drop n (erasures ++ (before ++ piece)))) (sym on);
      }

  -- the items that it completes
  pub soft-complete : complete all (bytes_of (before ++ take 1 piece)) ++ completed (stream_of all s.stream) bytes ≡ complete all (bytes_of (before ++ piece))
  soft-complete = grind (arith, common_steps, joined, are-completed law all s.stream bytes range left (bytes_of (before ++ take 1 piece)) h.bits)

  module _ (late : AcquisitionsAreLate) (steps : StepsAreLawful) (later : List ℤ) (margin : ℕ) where
    abbrev live : LiveOf
    live = stream_of all s.stream

    abbrev d : ℕ
    d = before_tail live

    abbrev end : ℕ
    end = 8 * length live.tail + 8 * length bytes

    abbrev kept : ℕ
    kept = min most_kept (place / 8)

    abbrev P : List ℤ
    P = drop (symbols_kept - 8 * kept) (s.symbols ++ piece)

    abbrev W : List ℤ
    W = (before ++ piece) ++ later

    tail_long : length live.tail ≡ kept
    tail_long = left.live.kept

    d_is : place - 8 * kept ≡ d
    d_is = omega (arith, tail_long)

    symbols : P ≡ drop d (before ++ piece)
    symbols = grind (arith, common_steps, part-symbols before place taken s.symbols (take 1 piece) piece (8 * kept) h.last, d_is)

    early : d ≤ length (before ++ piece)
    early = omega (arith, taken, length-append before piece)

    all_long : length W ≡ place + 8 * length bytes + 1 + length later
    all_long = omega (arith, length-append (before ++ piece) later, length-append before piece, taken, long)

    reach : d + end ≡ place + 8 * length bytes
    reach = omega (arith, tail_long)

    alike : (part : Signal) → length_of part ≡ 8 * (kept + length bytes) → part.gaps ≡ gaps_within all.gaps (place - 8 * kept) (8 * (kept + length bytes))
        → AreSymbolsOf part P end (signal_of all.gaps (bytes_of W)) W d
    alike part part_long gaps =
        let n_is : 8 * (kept + length bytes) ≡ end = omega (arith, tail_long) in
        symbols-alike part (signal_of all.gaps (bytes_of W)) P W later d end left.live.gaps (part_long ∙ n_is)
        (gaps ∙ ap₂ (λ (p n : ℕ). gaps_within all.gaps p n) d_is n_is)
        (ap (λ (xs : List ℤ). length xs) symbols ∙ omega (arith, length-drop d (before ++ piece), length-append before piece, taken, long, tail_long))
        (drop-append-le d (before ++ piece) later early ∙ ap (λ (xs : List ℤ). xs ++ later) (sym symbols))
        (omega (arith, length-signal all.gaps (bytes_of W), byte_count_of W, all_long, reach, left.live.whole))
        (omega (arith, all_long, reach))

    lawful : IsLawful all.rules (8 * length live.tail) (moved_back d live.state)
    lawful =
        lawful-back all.rules d (8 * length live.tail) place (moved_back d live.state) live.state
        (back-on all.rules d place live.state left.live.lawful (omega arith)) left.live.lawful (omega (arith, tail_long)) (grind (arith, common_steps, tail_long, left.live.whole))

    -- are written as they are read again from all symbols
    pub soft-written : (near : Terms) (old new : List RdsItem) → completed (stream_of near s.stream) bytes ≡ completed live bytes
        → IsWrittenAgain near all.gaps margin s piece bytes old new
        → IsFilled (map soft_item_in_c (read_again all margin W (completed live bytes))) old new
    soft-written near old new same (part, part_long, gaps, filled) =
        let here : IsFilled (map (λ (item : Item). soft_item_in_c (again_in part P d margin item)) (completed live bytes)) old new =
        subst (λ (n : ℕ). IsFilled (map (λ (item : Item). soft_item_in_c (again_in part P n margin item)) (completed live bytes)) old new) d_is
        (subst (λ (items : List Item). IsFilled (map (λ (item : Item). soft_item_in_c (again_in part P (place - 8 * kept) margin item)) items) old new) same filled) in
        let again = items-same part (signal_of all.gaps (bytes_of W)) P W margin end d (alike part part_long gaps) soft_item_in_c (run_next live bytes (8 * length bytes)).1
        (run-inside late steps (part_with live bytes (8 * length bytes)) all.rules range.loss.0 (moved_back d live.state) (8 * length live.tail) (8 * length bytes) lawful) in
        subst (λ (items : List RdsItem). IsFilled items old new) again here

-- room for sixteen items is never too little
pub roomy-soft : RunsGiveFewItems → (terms : Terms) (s : RdsStream) (symbols : List ℤ) (bytes : List ℕ) (room count : ℕ) (r : Refusal) (Same : Type 0)
    → length bytes ≡ byte_count symbols room → RefusesOn terms s bytes bytes room count Same r → r ≡ SmallRoom → room < 16
roomy-soft law terms s symbols bytes room count r Same many refused is = grind (arith, common_steps, length-map, few-completed law (stream_of terms s) bytes)
