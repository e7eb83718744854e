-- Well-formed listings: how many rows and fields they have, in which order the items come, and where they are. Which bits matter, and which
-- rows are written before the end. The laws `lists_are_well_formed`, `gaps_hide_bits` and `rows_begin_lists` promise it.
-- This project's rules.
use Rattle.std.specs.Prelude.{◌≡◌, ◌&&◌, ◌++◌, ◌∷◌, ◌+◌, ◌*◌, ◌≤◌, ⊤, ℕ, Bool, List, None, Ok, [], false, length, nat_le, nat_lt, true}
use Rattle.std.specs.List.{All, filter, flat_map, list_any}
use Rattle.rds_live.specs.StreamDecoder.{Terms, report_of}
use Rattle.rds_stream.specs.Recording.{Signal, length_of, packed_bit}
use Rattle.rds_sync.specs.{Totals.totals_of, declared.item.Block.Block, declared.item.Block.TheVariants.Missing, declared.item.Block.TheVariants.Read, declared.item.Item.Item, declared.item.Item.TheVariants.Acquired, declared.item.Item.TheVariants.Group, declared.item.Item.TheVariants.LostLock}
use Rattle.rds_tool.specs.{Following.rows_so_far, Input.recording_of, Laws.stream_input, Listing.report_text, Listing.row, Listing.totals_text, Outcome.result_of_job, Plans.PlanOf, Plans.plan_of, declared.job.Input.Input, declared.job.Settings.Settings}
use Rattle.rds_tool.specs.declared.job.Job.TheVariants as job

-- ---- rows

-- the text is n rows of eight fields
pub record HasRows (n : ℕ) (text : List ℕ) : Type 0 where
  pub rows : List (List (List ℕ))
  pub text_is : text ≡ flat_map row rows
  pub count : length rows ≡ n
  pub eight : All (λ fields. length fields ≡ 8) rows

-- ---- order

-- whether a block of a group was read
abbrev pub was_read : Block → Bool
was_read Missing = false
was_read (Read reading) = true

-- how many bits of the recording an item needs: all up to its last one
abbrev pub bits_of_item : Item → ℕ
bits_of_item (Acquired place number) = place + 1
bits_of_item (LostLock place) = place + 1
bits_of_item (Group group) = group.place + 26 * length (filter was_read group.blocks)

-- the next item: whether it comes in sync, as a group or a loss, or else as an acquisition; the least place of an acquisition or a loss,
-- and of a group; and how many bits it needs at least
pub record Next : Type 0 where
  pub in_sync : Bool
  pub least : ℕ
  pub least_group : ℕ
  pub bits : ℕ

-- the first item
abbrev pub at_first : Next
at_first = record { in_sync = false; least = 0; least_group = 0; bits = 0 }

-- The items come in order, and need at most n bits. Acquisitions and losses alternate, and groups come only in between. The places of
-- acquisitions and losses rise, and so do those of groups. No item needs fewer bits than the one before it.
abbrev pub AreInOrder : ℕ → Next → List Item → Type 0
AreInOrder n next [] = ⊤
AreInOrder n next (Acquired place number ∷ items) =
    (next.in_sync ≡ false) × (next.least ≤ place) × (next.bits ≤ place + 1) × (place + 1 ≤ n)
    × AreInOrder n (record { in_sync = true; least = place + 1; least_group = next.least_group; bits = place + 1 }) items
AreInOrder n next (LostLock place ∷ items) =
    (next.in_sync ≡ true) × (next.least ≤ place) × (next.bits ≤ place + 1) × (place + 1 ≤ n)
    × AreInOrder n (record { in_sync = false; least = place + 1; least_group = next.least_group; bits = place + 1 }) items
AreInOrder n next (Group group ∷ items) = let bits : ℕ = bits_of_item (Group group) in
    (next.in_sync ≡ true) × (next.least_group ≤ group.place) × (next.bits ≤ bits) × (bits ≤ n)
    × (length group.blocks ≡ 4)
    × AreInOrder n (record { in_sync = true; least = next.least; least_group = group.place + 1; bits = bits }) items

-- the listing of a recording of n bits: a row for each item, in order, and then twelve totals
pub record IsWellFormed (n : ℕ) (listing : List ℕ) : Type 0 where
  pub items : List Item
  pub listing_is : listing ≡ report_text items (totals_of items)
  pub rows : HasRows (length items + 12) listing
  pub in_order : AreInOrder n at_first items

-- each list that is not refused is well-formed
abbrev pub ListsAreWellFormed : Type 0
ListsAreWellFormed = (input : Input) (settings : Settings) (held listing : List ℕ)
    → result_of_job (job.List input settings) held ≡ Ok listing
    → (recording : Signal) × (recording_of input held ≡ Ok recording) × IsWellFormed (length_of recording) listing

-- ---- gaps

-- whether a place is in a gap
abbrev pub is_in_gap : List (ℕ × ℕ) → ℕ → Bool
is_in_gap gaps i = list_any (λ gap. nat_le gap.0 i && nat_lt i gap.1) gaps

-- as many bytes, whose bits differ only in gaps
pub record DifferInGaps (gaps : List (ℕ × ℕ)) (held other : List ℕ) : Type 0 where
  pub long : length other ≡ length held
  pub bits : (i : ℕ) → is_in_gap gaps i ≡ false → packed_bit other i ≡ packed_bit held i

-- they have the same list and totals, or the same refusal
abbrev pub GapsHideBits : Type 0
GapsHideBits = (input : Input) (settings : Settings) (held other : List ℕ) → input.hex ≡ false
    → DifferInGaps input.gaps held other
    → (result_of_job (job.List input settings) other ≡ result_of_job (job.List input settings) held)
    × (result_of_job (job.Totals input settings) other ≡ result_of_job (job.Totals input settings) held)

-- ---- rows of a stream

-- The rows that a followed stream has after its first bytes are the first rows of the list of all its bytes. Other rows come after them,
-- and then the totals.
abbrev pub RowsBeginLists : Type 0
RowsBeginLists = (settings : Settings) (plan : PlanOf) (gaps : List (ℕ × ℕ)) (heard more listing : List ℕ)
    → plan_of settings ≡ Ok plan
    → result_of_job (job.List (stream_input None gaps) settings) (heard ++ more) ≡ Ok listing
    → let terms : Terms = record { rules = plan.rules; gaps = gaps } in
    (rows : List ℕ)
    × (listing ≡ rows_so_far terms heard ++ (rows ++ totals_text (totals_of (report_of terms (heard ++ more)))))
