-- Bytes that are taken piece by piece, as many as have room.
use Rattle.rds_abi.proofs.Shared.{◌≡◌, ◌+◌, ◌-◌, ◌*◌, ◌/◌, ◌<◌, ◌≤◌, ◌++◌, ◌∙◌, common_steps, ℕ, List, ap, append_assoc, arith, drop, inr, length, map, max, refl, take, append-nil, drop_all, drop-drop, drop-take, length-append, length-map, length-take, map-append, take-append-drop, take-take, take_all, RunsGiveFewItems, IsInRange, Item, IsStreamDecoder, LiveOf, Terms, PiecesJoin, before_tail, completed, live_next, moved_back, part_with, IsFilled, IsMostTaken, stream_of, RdsStream, Refusal, SmallRoom, item_in_c, RdsItem, RefusesOn, length-drop, drop-append_seam, take-append_seam}
use borrow.Rule.Slice.PartMut.{put_mid}

-- a byte completes at most sixteen items
pub few-completed : RunsGiveFewItems → (live : LiveOf) (bytes : List ℕ) → length (completed live bytes) ≤ 16 * length bytes
few-completed law live bytes = grind (arith, common_steps, length-map, law (part_with live bytes (8 * length bytes)) live.terms.rules (moved_back (before_tail live) live.state) (8 * length live.tail) (8 * length live.tail + 8 * length bytes))

-- the first bytes, and some of the rest
pub taken-on : (a n : ℕ) (bytes : List ℕ) → take a bytes ++ take n (drop a bytes) ≡ take (a + n) bytes
taken-on a n bytes = grind (arith, common_steps, take-take a (a + n) bytes, drop-take a n bytes, take-append-drop a (take (a + n) bytes))

module _ (joins : PiecesJoin) (first live : LiveOf) (bytes : List ℕ) (a : ℕ) (range : IsInRange first.terms.rules) (lawful : IsStreamDecoder first)
    (is : live ≡ live_next first (take a bytes)) where
  -- the stream after a further piece
  pub joined-next : (n : ℕ) → live_next live (take n (drop a bytes)) ≡ live_next first (take (a + n) bytes)
  joined-next n =
      ap (λ (l : LiveOf). live_next l (take n (drop a bytes))) is
      ∙ (joins first (take a bytes) (take n (drop a bytes)) range lawful).0
      ∙ ap (λ (xs : List ℕ). live_next first xs) (taken-on a n bytes)

  -- and the items of both
  pub joined-items : (n : ℕ) → completed first (take a bytes) ++ completed live (take n (drop a bytes)) ≡ completed first (take (a + n) bytes)
  joined-items n =
      ap (λ (l : LiveOf). completed first (take a bytes) ++ completed l (take n (drop a bytes))) is
      ∙ (joins first (take a bytes) (take n (drop a bytes)) range lawful).1
      ∙ ap (λ (xs : List ℕ). completed first xs) (taken-on a n bytes)

  pub joined-count : (n filled more : ℕ) → filled ≡ length (completed first (take a bytes)) → more ≡ length (completed live (take n (drop a bytes)))
      → filled + more ≡ length (completed first (take (a + n) bytes))
  joined-count n filled more one two = grind (arith, common_steps, length-append, joined-items n)

  -- if the items of one byte more have no room after those before
  pub all-taken : (room filled : ℕ) → 0 < a → filled ≡ length (completed first (take a bytes)) → 0 < length (drop a bytes)
      → room - filled < length (completed live (take 1 (drop a bytes))) → IsMostTaken first bytes room a
  all-taken room filled some count rest small = inr (some, omega (arith, rest, length-drop a bytes), omega (arith, small, joined-count 1 filled _ count refl))

-- items that are written after those before
pub filled-on : (first more : List RdsItem) (filled : ℕ) (old room part : List RdsItem) → filled ≡ length first → IsFilled first old room
    → IsFilled more (drop filled room) part → IsFilled (first ++ more) old (take filled room ++ part)
filled-on first more filled old room part count one two = grind (arith, common_steps, take-append_seam, drop-append_seam, append_assoc, drop-drop, length-append)

-- bytes whose items have no room are one: by the most that they may complete, more would fit
pub one-byte : RunsGiveFewItems → (live : LiveOf) (bytes : List ℕ) (room most n count : ℕ) → n ≤ most → most ≡ max (room / 16) 1
    → count ≡ length (completed live (take n bytes)) → room < count → n ≡ 1
one-byte law live bytes room most n count within most_is told small =
    omega (arith, few-completed law live (take n bytes), length-take n bytes, within, most_is, told, small)

-- a row that is written keeps its length
pub filled-long : (items : List Item) (old new : List RdsItem) → IsFilled (map item_in_c items) old new → length items ≤ length old → length new ≡ length old
filled-long items old new is fits = grind (arith, common_steps, length-append, length-drop, length-map)

-- a piece's items, written to the rest of the room
pub filled-piece : (first more both : List Item) (filled : ℕ) (old room part : List RdsItem) → first ++ more ≡ both → filled ≡ length first → filled ≤ length room
    → IsFilled (map item_in_c first) old room → IsFilled (map item_in_c more) (take (length room - filled) (drop filled room)) part
    → IsFilled (map item_in_c both) old (put_mid filled (length room - filled) room part)
filled-piece first more both filled old room part joined count fits one two = grind (arith, common_steps, take_all, drop_all, length-drop, length-map, map-append, append-nil, filled-on (map item_in_c first) (map item_in_c more) filled old room part)

-- room for sixteen items is never too little
pub roomy : RunsGiveFewItems → (terms : Terms) (s : RdsStream) (bytes : List ℕ) (room count : ℕ) (r : Refusal) (Same : Type 0)
    → RefusesOn terms s bytes (take 1 bytes) room count Same r → r ≡ SmallRoom → room < 16
roomy law terms s bytes room count r Same refused is = grind (arith, common_steps, length-map, few-completed law (stream_of terms s) (take 1 bytes), length-take)
