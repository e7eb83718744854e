-- Sequences, rivals and sound ranges, over which all runs come into one state, whatever state they come from.
-- Cited by the law `runs_converge`. This project's rules.
--
-- A sound range is long enough for that. A run that is locked elsewhere sees a valid block only at a rival of
-- its phase: with at most j of them, it has enough bad blocks in a row to be lost. A run that is locked on
-- the places of the sequence with a wrong number sees no valid block. A run that searches locks on the
-- sequence within two of its blocks, for no rival acquires. Good blocks then leave no bad one among those
-- that the rule looks at, and a block of number 4 ends within three more.
use Rattle.std.specs.Prelude.{◌≡◌, ◌≢◌, ℕ, ◌+◌, ◌-◌, ◌*◌, ◌%◌, ◌<◌, ◌≤◌, max, List, IsTrue, is_some, length, None}
use Rattle.std.specs.List.{All, Sorted.IsStrictlyIncreasing}
use Rattle.rds_code.specs.Cycle.{number_after}
use Rattle.rds_stream.specs.Recording.{Signal, length_of, offset_at}
use Rattle.rds_sync.specs.{declared.loss.Loss.Loss, declared.loss.Loss.TheVariants.Run, declared.loss.Loss.TheVariants.Share, declared.state.State.State, declared.state.State.TheVariants.Locked, Rules.RuleNumbers, Loss.IsLossRule, Lawful.IsLawful, Step.run, Step.lock_of, Acquiring.acquired, Acquiring.has_number}

module _ (b : Signal) (from to : ℕ) where
  -- each place p + 26 k of the range has an offset of the number that counts on from c
  pub record IsSequence (p c : ℕ) : Type 0 where
    pub first : (from ≤ p) × (p < from + 26)
    pub numbers : (k : ℕ) → p + 26 * k < to → IsTrue (has_number b (p + 26 * k) (number_after c k))

  -- a place of the range that has an offset and is no place p + 26 k
  pub record IsRival (p r : ℕ) : Type 0 where
    pub inside : (from ≤ r) × (r < to)
    pub valid : IsTrue (is_some (offset_at b r))
    pub elsewhere : (k : ℕ) → r ≢ p + 26 * k

  -- these rivals, in rising order, have the place `phase` modulo 26
  abbrev pub AreRivals : ℕ → ℕ → List ℕ → Type 0
  AreRivals p phase rivals = IsStrictlyIncreasing rivals × All (λ r. IsRival p r × (r % 26 ≡ phase)) rivals

  -- block `last` of the sequence is the last one of the range that has number 4
  pub record IsLastFour (p c last : ℕ) : Type 0 where
    pub number : number_after c last ≡ 4
    pub inside : p + 26 * last < to
    pub final : (k : ℕ) → p + 26 * k < to → number_after c k ≡ 4 → k ≤ last

-- how many blocks a sound range has: enough for j + 1 losses, and for the blocks that a rule of loss looks at
abbrev pub sound_blocks : Loss → ℕ → ℕ
sound_blocks (Run n) j = (j + 1) * n + 6
sound_blocks (Share bad of) j = max ((j + 1) * bad) of + 6

-- the same in bits: 416 under the default rules, if there is no rival
abbrev pub sound_bits : Loss → ℕ → ℕ
sound_bits loss j = 26 * sound_blocks loss j

-- An example, two bits per character: by the rule Run 1, by which one bad block loses a lock, and for j = 1, a sound range has
-- (1 + 1) * 1 + 6 = 8 blocks, 208 bits. A digit is the end of a block of the sequence, and its number: from p on, with c = 3.
--
--     s     p                                                                last                             s + 208
--     ......3..r.........4............1.......q....2............3............4............1............2......|
--
-- Two rivals are about, r and q: windows that have an offset, and are no end of a block of the sequence. Neither acquires; they are
-- not a multiple of 26 bits apart, so that no place modulo 26 has more than j = 1 of them. From whatever lawful state a run comes to
-- s, it is in one state after `last`: between two groups, the next block due 26 bits on.
--
-- from s on, a sequence of p and c; in it no rival acquires, and no more than j rivals have one place modulo
-- 26
pub record IsSound (b : Signal) (rules : RuleNumbers) (j s p c : ℕ) : Type 0 where
  pub inside : s + sound_bits rules.loss j ≤ length_of b
  pub number : (1 ≤ c) × (c ≤ 4)
  pub sequence : IsSequence b s (s + sound_bits rules.loss j) p c
  pub none_acquires : (r : ℕ) → IsRival b s (s + sound_bits rules.loss j) p r → acquired b rules r ≡ None
  pub few : (phase : ℕ) (rivals : List ℕ) → AreRivals b s (s + sound_bits rules.loss j) p phase rivals
      → length rivals ≤ j

-- if a sound range begins at s, and the places up to `to` - 1 are those up to its last block of number 4,
-- this is the state after them: between two groups, with none of their blocks bad
abbrev pub IsConverged : Signal → RuleNumbers → ℕ → ℕ → State → Type 0
IsConverged b rules s to end = (j p c last : ℕ) → IsSound b rules j s p c
    → IsLastFour b s (s + sound_bits rules.loss j) p c last
    → to ≡ p + 26 * last + 1
    → end ≡ Locked (lock_of (p + 26 * last + 26) 1 0 1)

-- a sound range has a last block of number 4
abbrev pub SoundRangesHaveFours : Type 0
SoundRangesHaveFours = (b : Signal) (rules : RuleNumbers) (j s p c : ℕ) → IsSound b rules j s p c
    → (last : ℕ) × IsLastFour b s (s + sound_bits rules.loss j) p c last

-- over a sound range, the runs from all lawful states are in one state after its last block of number 4
abbrev pub RunsConverge : Type 0
RunsConverge = (b : Signal) (rules : RuleNumbers) → IsLossRule rules.loss → 1 ≤ rules.reach
    → (s to : ℕ) (t : State) → IsLawful rules s t → IsConverged b rules s to (run b rules t s (to - s)).0
