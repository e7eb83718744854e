-- How the blocks of a group came out: from that its totals, its lock's loss history, and a 16-bit word. Cited by the bodies below `Tally`,
-- `run_report` and `Decoder::fill`, and by no public call. This project's rule.
use Rattle.std.specs.Prelude.{ℕ, zero, suc, ◌+◌, ◌-◌, List, Bool, true, false, ◌==◌, sum_by, count_by, count_ones, if◌then◌else◌, slice_index_or, ◌≡◌, ◌*◌, ◌/◌, ◌%◌, ◌≤◌, min, [], ◌∷◌, length, ⊤, ◌<◌, map}
use Rattle.std.specs.List.{list_all, All}
use Rattle.rds_code.specs.{Bursts.burst_length, declared.reading.Reading.TheVariants.Valid, declared.reading.Reading.TheVariants.Corrected, declared.reading.Reading.TheVariants.Lost, Outcomes.burst_outcome, Cycle.next_number, declared.reading.Wanted.Wanted, declared.reading.Wanted.TheVariants.Either}
use Rattle.rds_sync.specs.{declared.item.Block.Block, declared.item.Block.TheVariants.Missing, declared.item.Block.TheVariants.Read, declared.loss.Loss.Loss, declared.totals.Totals.Totals, Loss.bad_after, Loss.are_too_many, Loss.IsLawfulBad, Totals.by_burst_length, Acquiring.has_number, Groups.group, Groups.wanted_beside, Rules.RuleNumbers}
use Rattle.rds_stream.specs.Recording.{Signal, reading_at}

-- how a block came out: missing, valid, lost, or corrected, with the span of its burst and how many bits were inverted
pub data Outcome : Type 0 where
  missing : Outcome
  valid : Outcome
  lost : Outcome
  corrected : ℕ → ℕ → Outcome

-- how this block came out
abbrev pub outcome_of : Block → Outcome
outcome_of Missing = missing
outcome_of (Read (Valid o info)) = valid
outcome_of (Read (Corrected o info e)) = corrected (burst_length e) (count_ones e)
outcome_of (Read Lost) = lost

-- the blocks that a rule of loss calls good
abbrev pub was_valid : Outcome → Bool
was_valid valid = true
was_valid o = false

abbrev pub was_lost : Outcome → Bool
was_lost lost = true
was_lost o = false

-- corrected by a burst of span s
abbrev pub has_span : ℕ → Outcome → Bool
has_span s (corrected t n) = t == s
has_span s o = false

-- how many bits were inverted in it
abbrev pub bits_inverted : Outcome → ℕ
bits_inverted (corrected s n) = n
bits_inverted o = 0

-- valid or corrected, so that it has an information word
abbrev pub has_info : Outcome → Bool
has_info valid = true
has_info (corrected s n) = true
has_info o = false

-- the twelve totals (`Totals`) of a group whose blocks came out so
abbrev pub group_totals : List Outcome → Totals
group_totals os = record {
  valid = count_by was_valid os;
  bursts = by_burst_length (λ s. count_by (has_span s) os);
  lost = count_by was_lost os;
  bits = sum_by bits_inverted os;
  groups = 1;
  complete = if list_all has_info os then 1 else 0;
  acquired = 0;
  losses = 0;
}

-- block y is good for a rule of loss: it was valid
abbrev pub good_at : List Outcome → ℕ → Bool
good_at os y = was_valid (slice_index_or os (y - 1) missing)

-- the loss history after as many of these blocks as the last number says, from number y on
abbrev pub bad_over : Loss → List Outcome → ℕ → ℕ → ℕ → ℕ
bad_over loss os bad y zero = bad
bad_over loss os bad y (suc more) = bad_over loss os (bad_after loss (good_at os y) bad) (y + 1) more

-- the loss history before and after four of these blocks, none of which loses the lock
pub record IsKeptOver (loss : Loss) (os : List Outcome) (before after : ℕ) : Type 0 where
  pub bad : after ≡ bad_over loss os before 1 4
  pub lawful : IsLawfulBad loss after
  pub kept : (k : ℕ) → k < 4 → are_too_many loss (bad_over loss os before 1 (k + 1)) ≡ false

-- ---- four blocks as a 16-bit word: four bits per block, block 1 lowest

-- four bits: none for a missing block, else its outcome
abbrev pub nibble : Outcome → ℕ
nibble missing = 0
nibble valid = 1
nibble lost = 2
nibble (corrected s n) = burst_outcome s n

-- the outcomes in the order of these numbers
abbrev pub outcomes_in_order : List Outcome
outcomes_in_order =
    missing ∷ valid ∷ lost ∷ corrected 1 1 ∷ corrected 2 2 ∷ corrected 3 2 ∷ corrected 3 3 ∷ corrected 4 2
    ∷ corrected 4 3 ∷ corrected 4 4
    ∷ corrected 5 2 ∷ corrected 5 3 ∷ corrected 5 4 ∷ corrected 5 5 ∷ []

-- the outcome that four bits say; 14 and 15 say nothing
abbrev pub outcome_at : ℕ → Outcome
outcome_at k = slice_index_or outcomes_in_order k missing

-- it has four bits of its own: the burst has span 1 and one bit, or span s up to 5 and from 2 to s bits
abbrev pub IsShort : Outcome → Type 0
IsShort (corrected s n) = (1 ≤ s) × (s ≤ 5) × (min 2 s ≤ n) × (n ≤ s)
IsShort o = ⊤

-- four outcomes that have a word
abbrev pub AreShort : List Outcome → Type 0
AreShort os = (length os ≡ 4) × All IsShort os

-- the first block in the lowest four bits
abbrev pub word_of_blocks : List Outcome → ℕ
word_of_blocks [] = 0
word_of_blocks (o ∷ os) = nibble o + 16 * word_of_blocks os

-- the four blocks that a word says
abbrev pub blocks_in : ℕ → List Outcome
blocks_in w = outcome_at (w % 16) ∷ outcome_at (w / 16 % 16) ∷ outcome_at (w / 256 % 16)
    ∷ outcome_at (w / 4096) ∷ []

-- ---- a lock that its second block loses, and the word of its group

-- the offsets that are tried for the next block after block x at a place
abbrev pub wanted_behind : Signal → RuleNumbers → ℕ → ℕ → Wanted
wanted_behind b rules place x = if x == 2 then wanted_beside
    (Read (reading_at b place 2 Either rules.burst)) else Either

-- the first block of the group of the next block after block x, in a lock that begins with block x
abbrev pub first_behind : ℕ → ℕ
first_behind x = if x == 4 then 1 else x

-- the word of a group of a valid block x and the next block of outcome k; after block 4, of only the next block
abbrev pub word_of_two : ℕ → ℕ → ℕ
word_of_two x k = if x == 1 then 1 + 16 * k else
    (if x == 2 then 16 + 256 * k else (if x == 3 then 256 + 4096 * k else k))

-- the next block after block x at a place ends before `to` and loses the lock, and the word is that of its
-- group
pub record IsLostAtOnce (b : Signal) (rules : RuleNumbers) (place x to word : ℕ) : Type 0 where
  pub before : place + 26 < to
  pub bad : has_number b (place + 26) (next_number x) ≡ false
  pub loses : are_too_many rules.loss (bad_after rules.loss false 0) ≡ true
  pub blocks : blocks_in word ≡ map outcome_of
      (group b rules (first_behind x) (next_number x) (place + 26)).blocks
