-- Short words for the examples, and what they import from elsewhere.
use Rattle.std.specs.Prelude.{◌≡◌, ℕ, Bool, List, [], ◌∷◌, ◌++◌, Option, Some, None, ⊤, drop, false, flat_map, map, true}
use Rattle.std.specs.{List.range_with_len, Int.to_be_bytes, Int.w128, Int.Count.count_leading_zeros, Int.Count.ones, Int.Count.count_trailing_zeros}
use Rattle.rds_code.specs.{Remainder.rem, declared.offset.Offset.Offset, declared.reading.Reading.TheVariants.Valid, declared.reading.Reading.TheVariants.Corrected, declared.reading.Reading.TheVariants.Lost}
use Rattle.rds_stream.specs.Recording.{window, touched, heard, offset_at}
use Rattle.rds_sync.specs.{declared.item.Block.Block, declared.item.Block.TheVariants.Missing, declared.item.Block.TheVariants.Read, declared.item.Version.Version, declared.loss.Loss.TheVariants.Run, declared.loss.Loss.TheVariants.Share, declared.totals.Totals.Totals, Acquiring.acquired, Acquiring.has_number, Groups.group, Report.report_items, Rules.RuleNumbers, Sent.binary, Totals.totals_of}
pub use Rattle.rds_code.specs.declared.offset.Offset.TheVariants.{A as OA, B as OB, C, Cx, D}
pub use Rattle.rds_stream.specs.Recording.{Signal, bits_of, ungapped}
pub use Rattle.rds_sync.specs.{declared.item.Item.Item, declared.item.Item.TheVariants.Acquired, declared.item.Item.TheVariants.Group, declared.item.Item.TheVariants.LostLock, declared.item.Version.TheVariants.A, declared.item.Version.TheVariants.B, declared.item.Version.TheVariants.Unknown, declared.state.State.State, declared.state.State.TheVariants.Searching, declared.state.State.TheVariants.Locked, Step.run, Step.lock_of}

-- the definitions that the examples compute with
unfoldable pub computed : ⊤
unfolding acquired has_number group rem binary window touched heard offset_at count_leading_zeros count_trailing_zeros ones
computed = tt

-- ---- recordings and rules

-- the 13 bytes of a group, as one number
abbrev pub bytes_of : ℕ → List ℕ
bytes_of number = drop 3 (to_be_bytes w128 number)

-- the first bits of these bytes
abbrev pub first : ℕ → List ℕ → Signal
first bits bytes = ungapped (bits_of bytes bits)

-- those from the one place to before the other mean nothing
abbrev pub gapped : ℕ → List ℕ → ℕ → ℕ → Signal
gapped bits bytes from to = record { bits = bits_of bytes bits; gaps = (from, to) ∷ [] }

-- four information words 0 in a group of version A, with their checkwords
abbrev pub zero_group : List ℕ
zero_group = bytes_of 0x00003f000019800005a00001b4

abbrev pub zero_groups : ℕ → List ℕ
zero_groups count = flat_map (λ _. zero_group) (range_with_len 0 count)

abbrev pub rules_of : ℕ → ℕ → ℕ → RuleNumbers
rules_of burst reach loss = record { burst = burst; reach = reach; loss = Run loss }

-- rules by which a lock is lost at `bad` bad blocks among the last `of`
abbrev pub rules_with_share : ℕ → ℕ → RuleNumbers
rules_with_share bad of = record { burst = 2; reach = 3; loss = Share bad of }

abbrev pub default_rules : RuleNumbers
default_rules = rules_of 2 3 10

-- ---- blocks and groups

abbrev pub missing : Block
missing = Missing

abbrev pub valid : Offset → ℕ → Block
valid offset info = Read (Valid offset info)

abbrev pub corrected : Offset → ℕ → ℕ → Block
corrected offset info burst = Read (Corrected offset info burst)

abbrev pub lost : Block
lost = Read Lost

-- valid blocks of the information word 0
abbrev pub a0 : Block
a0 = valid OA 0

abbrev pub b0 : Block
b0 = valid OB 0

abbrev pub c0 : Block
c0 = valid C 0

abbrev pub d0 : Block
d0 = valid D 0

abbrev pub group_with : Bool → ℕ → Option ℕ → Version → Block → Block → Block → Block → Item
group_with conflict place kind version one two three four = Group (record {
  place = place;
  blocks = one ∷ two ∷ three ∷ four ∷ [];
  kind = kind;
  version = version;
  conflict = conflict;
})

-- a group that is not in conflict, and one that is
abbrev pub group_at : ℕ → Option ℕ → Version → Block → Block → Block → Block → Item
group_at = group_with false

abbrev pub conflict_at : ℕ → Option ℕ → Version → Block → Block → Block → Block → Item
conflict_at = group_with true

-- groups of zeros: whole, and from a block on
abbrev pub whole_at : ℕ → Item
whole_at place = group_at place (Some 0) A a0 b0 c0 d0

abbrev pub from_2_at : ℕ → Item
from_2_at place = group_at place (Some 0) A missing b0 c0 d0

abbrev pub from_3_at : ℕ → Item
from_3_at place = group_at place None A missing missing c0 d0

abbrev pub only_4_at : ℕ → Item
only_4_at place = group_at place None Unknown missing missing missing d0

-- a group whose block 1 loses sync
abbrev pub lost_1_at : ℕ → Item
lost_1_at place = group_at place None Unknown lost missing missing missing

-- block 2 acquires at place 51, in a group of type 0 and version A with these blocks 2 to 4
abbrev pub begun_with : Block → Block → Block → List Item
begun_with two three four = Acquired 51 2 ∷ group_at 26 (Some 0) A missing two three four ∷ []

-- the items of the zero group, and these with a second group after them
abbrev pub items_of_whole : List Item
items_of_whole = begun_with b0 c0 d0

abbrev pub and_then : Version → Block → Block → Block → Block → List Item
and_then version one two three four = items_of_whole ++ group_at 104 (Some 0) version one two three four ∷ []

-- ---- states

-- between two groups, with no bad block
abbrev pub due_1 : ℕ → State
due_1 place = Locked (lock_of place 1 0 1)

-- ---- reports

-- the twelve totals, in the order of the listing
abbrev pub totals : ℕ → ℕ → ℕ → ℕ → ℕ → ℕ → ℕ → ℕ → ℕ → ℕ → ℕ → ℕ → Totals
totals valid burst1 burst2 burst3 burst4 burst5 lost bits groups complete acquired losses = record {
  valid = valid;
  bursts = burst1 ∷ burst2 ∷ burst3 ∷ burst4 ∷ burst5 ∷ [];
  lost = lost;
  bits = bits;
  groups = groups;
  complete = complete;
  acquired = acquired;
  losses = losses;
}

-- a recording, rules, and the items and totals that it has by them
pub record Row : Type 0 where
  pub signal : Signal
  pub rules : RuleNumbers
  pub items : List Item
  pub totals : Totals

abbrev pub row : Signal → RuleNumbers → List Item → Totals → Row
row signal rules items twelve = record { signal = signal; rules = rules; items = items; totals = twelve }

abbrev pub nothing_in : Signal → RuleNumbers → Row
nothing_in signal rules = row signal rules [] (totals 0 0 0 0 0 0 0 0 0 0 0 0)

abbrev pub report_of : Row → List Item × Totals
report_of r = (report_items r.signal r.rules, totals_of r.items)

abbrev pub report_in : Row → List Item × Totals
report_in r = (r.items, r.totals)

-- each row of the table is the report of its recording
abbrev pub AreReported : List Row → Type 0
AreReported rows = map report_of rows ≡ map report_in rows
