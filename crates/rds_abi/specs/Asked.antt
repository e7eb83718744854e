-- A caller's request: bytes, how many bits of them, the gaps in these, and the numbers of rules; its errors, and its results. `totals` and
-- `items` cite it, and by way of `Ranges` and `Stream` the other calls of a decoder. This project's rules.
use Rattle.std.specs.Prelude.{◌≡◌, ℕ, ◌*◌, ◌^◌, ◌<◌, ◌≤◌, ◌⊎◌, ◌==◌, ◌++◌, List, drop, length, map, replicate, if◌then◌else◌, ⊤}
use Rattle.rds_stream.specs.Recording.{AreGaps, Signal, bits_of}
use Rattle.rds_sync.specs.{Ranges.IsInRange, Ranges.IsRunOutside, Ranges.IsShareOutside, Ranges.farthest_reach, Ranges.longest_burst, Report.report_items, Rules.RuleNumbers, Totals.totals_of, declared.loss.Loss.Loss, declared.loss.Loss.TheVariants.Run, declared.loss.Loss.TheVariants.Share}
use Rattle.rds_abi.specs.{Layout.item_in_c, Layout.totals_in_c, Refusals.number_of, declared.layout.RdsGap.RdsGap, declared.layout.RdsRules.RdsRules, declared.layout.RdsItem.RdsItem, declared.layout.RdsTotals.RdsTotals, declared.refusal.Refusal.Refusal, declared.refusal.Refusal.TheVariants.BadGaps, declared.refusal.Refusal.TheVariants.BitsPastBytes, declared.refusal.Refusal.TheVariants.BurstRange, declared.refusal.Refusal.TheVariants.LossRange, declared.refusal.Refusal.TheVariants.OutOfMemory, declared.refusal.Refusal.TheVariants.ReachRange, declared.refusal.Refusal.TheVariants.ReservedField, declared.refusal.Refusal.TheVariants.ShareRange, declared.refusal.Refusal.TheVariants.SmallRoom, declared.refusal.Refusal.TheVariants.TooLong}

pub record Asked : Type 0 where
  pub bytes : List ℕ
  pub bits : ℕ
  pub gaps : List RdsGap
  pub rules : RdsRules

abbrev pub asked : List ℕ → ℕ → List RdsGap → RdsRules → Asked
asked bytes bits gaps rules = record { bytes = bytes; bits = bits; gaps = gaps; rules = rules }

-- ---- the meaning of the numbers

-- a gap: the places from its first number to before its second
abbrev pub gap_of : RdsGap → ℕ × ℕ
gap_of gap = (gap.begin, gap.end)

abbrev pub gaps_of : List RdsGap → List (ℕ × ℕ)
gaps_of gaps = map gap_of gaps

-- a rule of loss: `loss` bad blocks in a row, or `loss` of the last `of`
abbrev pub loss_of : RdsRules → Loss
loss_of rules = if rules.of == 0 then Run rules.loss else Share rules.loss rules.of

abbrev pub rules_of : RdsRules → RuleNumbers
rules_of rules = record { burst = rules.burst; reach = rules.reach; loss = loss_of rules }

-- the first bits of the bytes, with the gaps
abbrev pub recording_of : List ℕ → ℕ → List RdsGap → Signal
recording_of bytes bits gaps = record { bits = bits_of bytes bits; gaps = gaps_of gaps }

-- ---- errors

-- by these numbers of rules
abbrev pub RefusesRules : RuleNumbers → Refusal → Type 0
RefusesRules rules BurstRange = longest_burst < rules.burst
RefusesRules rules ReachRange = (rules.burst ≤ longest_burst) × ((rules.reach < 1) ⊎ (farthest_reach < rules.reach))
RefusesRules rules LossRange =
    (rules.burst ≤ longest_burst) × (1 ≤ rules.reach) × (rules.reach ≤ farthest_reach) × IsRunOutside rules.loss
RefusesRules rules ShareRange =
    (rules.burst ≤ longest_burst) × (1 ≤ rules.reach) × (rules.reach ≤ farthest_reach) × IsShareOutside rules.loss
RefusesRules rules OutOfMemory = ⊤
RefusesRules rules other = ⊥

-- the reserved fields of rules are 0
abbrev pub AreReserved : RdsRules → Type 0
AreReserved rules = rules.reserved ≡ replicate 4 0

-- refusals of rules as C has them: a reserved field first
abbrev pub RefusesGiven : RdsRules → Refusal → Type 0
RefusesGiven rules ReservedField = AreReserved rules → ⊥
RefusesGiven rules refusal = AreReserved rules × RefusesRules (rules_of rules) refusal

-- nothing of them
pub record AreGiven (rules : RdsRules) : Type 0 where
  pub reserved : AreReserved rules
  pub range : IsInRange (rules_of rules)

-- of the recording: its length, then what the bytes hold, then the gaps
module _ (bytes : List ℕ) (bits : ℕ) (gaps : List RdsGap) where
  abbrev pub RefusesRecording : Refusal → Type 0
  RefusesRecording TooLong = 2 ^ 36 < bits
  RefusesRecording BitsPastBytes = (bits ≤ 2 ^ 36) × (8 * length bytes < bits)
  RefusesRecording BadGaps = (bits ≤ 2 ^ 36) × (bits ≤ 8 * length bytes) × (AreGaps bits (gaps_of gaps) → ⊥)
  RefusesRecording OutOfMemory = ⊤
  RefusesRecording other = ⊥

  -- nothing of the recording
  abbrev pub IsRecording : Type 0
  IsRecording = (bits ≤ 2 ^ 36) × (bits ≤ 8 * length bytes) × AreGaps bits (gaps_of gaps)

-- nothing at all
pub record IsLawful (a : Asked) : Type 0 where
  pub rules : AreGiven a.rules
  pub recording : IsRecording a.bytes a.bits a.gaps

-- the rules first, and then the recording; memory may be refused at any time
abbrev pub Refuses : Asked → Refusal → Type 0
Refuses a refusal = RefusesGiven a.rules refusal ⊎ (AreGiven a.rules × RefusesRecording a.bytes a.bits a.gaps refusal)

-- a call that answers this number, not 0, had to refuse something
abbrev pub RefusedBy : (Refusal → Type 0) → ℕ → Type 0
RefusedBy refuses number = (refusal : Refusal) × (number ≡ number_of refusal) × refuses refusal

-- ---- items

abbrev pub items_asked : Asked → List RdsItem
items_asked a = map item_in_c (report_items (recording_of a.bytes a.bits a.gaps) (rules_of a.rules))

abbrev pub totals_asked : Asked → RdsTotals
totals_asked a = totals_in_c (totals_of (report_items (recording_of a.bytes a.bits a.gaps) (rules_of a.rules)))

-- the room begins with these items, and is unchanged after them
abbrev pub IsFilled : List RdsItem → List RdsItem → List RdsItem → Type 0
IsFilled items old new = new ≡ items ++ drop (length items) old

-- the room is too small for the items, and count is their number
abbrev pub IsTooMuch : List RdsItem → ℕ → Refusal → ℕ → Type 0
IsTooMuch items room refusal count = (refusal ≡ SmallRoom) × (room < length items) × (count ≡ length items)

-- the room is too small for the items asked for, and `new` is their number, or the call is refused and the count is as before
abbrev pub RefusesItems : Asked → ℕ → ℕ → ℕ → Refusal → Type 0
RefusesItems a room old new refusal = (IsLawful a × IsTooMuch (items_asked a) room refusal new) ⊎ (Refuses a refusal × (new ≡ old))
