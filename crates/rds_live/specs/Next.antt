-- The next items and the next state of a decoder of a stream, only by its numbers: by those that a decoder
-- was left with, and by others that are lawful and of no stream. `take`, `take_all`, `finish` and
-- `finish_with` of `StreamDecoder` cite it. This project's rule.
use Rattle.std.specs.Prelude.{◌≡◌, ℕ, ◌≤◌, ◌+◌, ◌-◌, ◌*◌, List, [], ◌++◌, length}
use Rattle.rds_stream.specs.Recording.{Signal}
use Rattle.rds_sync.specs.{declared.state.State.State, declared.state.State.TheVariants.Searching, declared.state.State.TheVariants.Locked, declared.item.Item.Item, declared.totals.Totals.Totals, Counting.IsAtMost, Counting.plus, Lawful.IsLawful, Ranges.IsInRange, Step.run, Step.items_of_end, Totals.totals_of}
use Rattle.rds_live.specs.{StreamDecoder.HasHeard, StreamDecoder.IsStreamDecoder, StreamDecoder.LiveOf, StreamDecoder.complete, StreamDecoder.last_bytes, StreamDecoder.most_counted, StreamDecoder.report_at, StreamDecoder.signal_at, Gaps.gaps_within, Moving.moved_items, Moving.moved_state, declared.kept.Start.Start}

-- the state, with all places moved back by d
abbrev pub moved_back : ℕ → State → State
moved_back d Searching = Searching
moved_back d (Locked lock) = Locked (record lock { due = lock.due - d })

-- how many bits of the stream come before the bytes that are kept
abbrev pub before_tail : LiveOf → ℕ
before_tail live = live.place - 8 * length live.tail

-- the bytes that are kept and the first bits of these as a recording, with the gaps in them
abbrev pub part_with : LiveOf → List ℕ → ℕ → Signal
part_with live bytes bits =
    signal_at (gaps_within live.terms.gaps (before_tail live) (8 * length live.tail + bits))
    (live.tail ++ bytes) (8 * length live.tail + bits)

-- the run over these bits, by the places of that recording
abbrev pub run_next : LiveOf → List ℕ → ℕ → State × List Item
run_next live bytes bits =
    run (part_with live bytes bits) live.terms.rules (moved_back (before_tail live) live.state)
    (8 * length live.tail) bits

-- the items that these bits complete, by their places in the stream
abbrev pub items_next : LiveOf → List ℕ → ℕ → List Item
items_next live bytes bits = moved_items (before_tail live) (run_next live bytes bits).1

-- the group in progress after them, if there is one
abbrev pub group_next : LiveOf → List ℕ → ℕ → List Item
group_next live bytes bits =
    moved_items (before_tail live) (items_of_end (part_with live bytes bits) live.terms.rules
    (run_next live bytes bits).0)

-- the items that these bytes complete
abbrev pub completed : LiveOf → List ℕ → List Item
completed live bytes = items_next live bytes (8 * length bytes)

-- the decoder after these bytes
abbrev pub live_next : LiveOf → List ℕ → LiveOf
live_next live bytes = record {
  terms = live.terms;
  tail = last_bytes (live.tail ++ bytes);
  place = live.place + 8 * length bytes;
  state = moved_state (before_tail live) (run_next live bytes (8 * length bytes)).0;
  totals = plus live.totals (totals_of (completed live bytes));
}

-- the decoder if it were in this state there, and had counted nothing
abbrev pub guessed : LiveOf → State → LiveOf
guessed live state = record live { state = state; totals = totals_of [] }

-- where the run over the next bytes begins, by the places of the bytes that are kept
pub record IsStart (live : LiveOf) (start : Start) : Type 0 where
  pub before : start.before ≡ before_tail live
  pub from : start.from ≡ 8 * length live.tail
  pub state : start.state ≡ moved_back (before_tail live) live.state
  pub known : IsStreamDecoder live
  pub range : IsInRange live.terms.rules
  pub lawful : IsLawful live.terms.rules start.from start.state

-- no count grew by more than this number of bits may give
pub record IsWithin (bits : ℕ) (before after : Totals) : Type 0 where
  pub within : (n : ℕ) → IsAtMost n before → IsAtMost (n + most_counted bits) after

-- ---- laws

-- bytes that are taken in two pieces give the same as at once
abbrev pub PiecesJoin : Type 0
PiecesJoin = (live : LiveOf) (first second : List ℕ) → IsInRange live.terms.rules → IsStreamDecoder live
    → (live_next (live_next live first) second ≡ live_next live (first ++ second))
    × (completed live first ++ completed (live_next live first) second ≡ completed live (first ++ second))

-- the decoder of a heard stream is that of the longer stream after these bytes, and the items are those of
-- the stream
abbrev pub NextIsHeard : Type 0
NextIsHeard = (live : LiveOf) (before bytes : List ℕ) → IsInRange live.terms.rules → IsStreamDecoder live
    → HasHeard live before
    → HasHeard (live_next live bytes) (before ++ bytes)
    × (complete live.terms before ++ completed live bytes ≡ complete live.terms (before ++ bytes))

-- a heard stream that ends with the first bits of these bytes has this report
abbrev pub EndsAreReports : Type 0
EndsAreReports = (live : LiveOf) (before bytes : List ℕ) (bits : ℕ) → IsInRange live.terms.rules
    → IsStreamDecoder live → HasHeard live before → bits ≤ 8 * length bytes
    → complete live.terms before ++ items_next live bytes bits ++ group_next live bytes bits
    ≡ report_at live.terms (before ++ bytes) (8 * length before + bits)
