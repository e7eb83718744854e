-- A decoder of a stream by the bytes that it has heard, and which items are complete then. Each call of
-- `StreamDecoder` cites it, and so do `follow` of rds_tool and `push`, `finish` and `finish_with` of rds_abi. This
-- project's rules.
use Rattle.std.specs.Prelude.{◌≡◌, ℕ, ◌-◌, ◌*◌, ◌/◌, ◌^◌, ◌≤◌, List, [], length, drop, min}
use Rattle.rds_stream.specs.Recording.{AreGaps, Signal, bits_of}
use Rattle.rds_sync.specs.{declared.state.State.State, declared.state.State.TheVariants.Searching, declared.item.Item.Item, Rules.RuleNumbers, Lawful.IsLawful, declared.totals.Totals.Totals, Counting.IsAtMost, Report.report_items, Totals.totals_of, Step.run}

-- how many bytes of a stream are kept: enough for all that a run may hear before a bit
abbrev pub most_kept : ℕ
most_kept = 30

-- the terms by which a stream is decoded: its rules, and the gaps that were told of it, by their places in
-- the stream
pub record Terms : Type 0 where
  pub rules : RuleNumbers
  pub gaps : List (ℕ × ℕ)

-- these rules, and no gaps
abbrev pub by_rules : RuleNumbers → Terms
by_rules rules = record { rules = rules; gaps = [] }

-- the terms of a stream, the last bytes that were heard, how many bits were heard, the state after them, and the totals
-- of the items that are complete
pub record LiveOf : Type 0 where
  pub terms : Terms
  pub tail : List ℕ
  pub place : ℕ
  pub state : State
  pub totals : Totals

-- a decoder with these numbers
abbrev pub live_with : RuleNumbers → List (ℕ × ℕ) → List ℕ → ℕ → State → Totals → LiveOf
live_with rules gaps tail place state totals =
    record {
      terms = record { rules = rules; gaps = gaps };
      tail = tail;
      place = place;
      state = state;
      totals = totals;
    }

-- the first bits of these bytes, and all of them, with these gaps; a gap after the bytes has no effect
abbrev pub signal_at : List (ℕ × ℕ) → List ℕ → ℕ → Signal
signal_at gaps bytes bits = record { bits = bits_of bytes bits; gaps = gaps }

abbrev pub signal_of : List (ℕ × ℕ) → List ℕ → Signal
signal_of gaps bytes = signal_at gaps bytes (8 * length bytes)

-- the run over all of a stream of these bytes
abbrev pub run_of : Terms → List ℕ → State × List Item
run_of terms bytes = run (signal_of terms.gaps bytes) terms.rules Searching 0 (8 * length bytes)

-- the items that are complete once these bytes were heard
abbrev pub complete : Terms → List ℕ → List Item
complete terms bytes = (run_of terms bytes).1

-- the report of a stream of the first bits of these bytes, and of all of them
abbrev pub report_at : Terms → List ℕ → ℕ → List Item
report_at terms bytes bits = report_items (signal_at terms.gaps bytes bits) terms.rules

abbrev pub report_of : Terms → List ℕ → List Item
report_of terms bytes = report_at terms bytes (8 * length bytes)

-- the last bytes
abbrev pub last_bytes : List ℕ → List ℕ
last_bytes bytes = drop (length bytes - most_kept) bytes

-- the decoder once these bytes were heard
abbrev pub live_of : Terms → List ℕ → LiveOf
live_of terms bytes =
    record {
      terms = terms;
      tail = last_bytes bytes;
      place = 8 * length bytes;
      state = (run_of terms bytes).0;
      totals = totals_of (complete terms bytes);
    }

-- these bytes were heard
abbrev pub HasHeard : LiveOf → List ℕ → Type 0
HasHeard live bytes = live ≡ live_of live.terms bytes

-- no count of the totals of this many bits is above this
abbrev pub most_counted : ℕ → ℕ
most_counted bits = 2 ^ 11 * bits

-- every decoder of a stream satisfies this: whole bytes were heard, no more than a recording may hold, the
-- last of them are kept, the state is lawful, the totals are small, and the gaps are some that a recording
-- may have
pub record IsStreamDecoder (live : LiveOf) : Type 0 where
  pub whole : live.place ≡ 8 * (live.place / 8)
  pub limit : live.place ≤ 2 ^ 36
  pub kept : length live.tail ≡ min most_kept (live.place / 8)
  pub lawful : IsLawful live.terms.rules live.place live.state
  pub small : IsAtMost (most_counted live.place) live.totals
  pub gaps : AreGaps (2 ^ 36) live.terms.gaps
