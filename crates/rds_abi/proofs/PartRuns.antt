-- A run over a part of a recording is the run over the whole there.
use Rattle.rds_abi.proofs.Shared.{common_steps, ◌≡◌, ℕ, ◌+◌, ◌-◌, ◌*◌, ◌≤◌, ◌⊎◌, ◌∙◌, List, ap, arith, drop, length, subst, sym, take, slice_range, get_or-drop, get_or-take, length-take, take-append-drop, AreGaps, Signal, bits_of, length_of, State, IsInRange, RuleNumbers, items_of_end, run, gaps_within, signal_at, EndsMove, IsPartHeard, RunsMove, moved_items, moved_state, most_behind, part-touched, IsPartOf, bits-begin, bits-heard, asked, recording_of, rules_of, IsRun, run_asked, run_in_part, state_of, RdsGap, RdsRules, RdsState, length-drop, IsLawful}

-- the first bits of bytes are those of as many bytes as hold them
pub bits-of-first : (bytes : List ℕ) (k bits : ℕ) → bits ≤ 8 * length (take k bytes) → bits_of (take k bytes) bits ≡ bits_of bytes bits
bits-of-first bytes k bits held = grind (arith, common_steps, bits-begin (take k bytes) (drop k bytes) bits held, take-append-drop k bytes)

-- bytes from number k on are in all
pub slice-part : (bytes : List ℕ) (k z : ℕ) → k ≤ z → z ≤ length bytes → IsPartOf bytes (slice_range bytes k z) k
slice-part bytes k z order within = grind (arith, common_steps, length-take, length-drop, get_or-take, get_or-drop)

-- a part that begins with byte k is heard in the whole
pub slice-heard : (bytes : List ℕ) (bits : ℕ) (gaps : List (ℕ × ℕ)) (k z len place : ℕ) (part : Signal) → AreGaps bits gaps → k ≤ z → z ≤ length bytes
    → len ≤ 8 * (z - k) → len + 8 * k ≤ bits → part ≡ signal_at (gaps_within gaps (8 * k) len) (slice_range bytes k z) len → (8 * k ≡ 0) ⊎ (most_behind ≤ place)
    → IsPartHeard (signal_at gaps bytes bits) part (8 * k) place
slice-heard bytes bits gaps k z len place part are order within held inside is early =
    let long : length (slice_range bytes k z) ≡ z - k = omega (arith, order, within, length-take (z - k) (drop k bytes), length-drop k bytes) in
    subst (λ (b : Signal). IsPartHeard (signal_at gaps bytes bits) b (8 * k) place) (sym is)
    (bits-heard bytes (slice_range bytes k z) k (slice-part bytes k z order within) len bits (omega (arith, held, long)) inside
    gaps (gaps_within gaps (8 * k) len) (part-touched bits (8 * k) len gaps are) place early)

module _ (moves : RunsMove) (whole part : Signal) (rules : RuleNumbers) (before from to : ℕ) (s state : State)
    (range : IsInRange rules) (begins : before ≤ from) (order : from ≤ to) (long : length_of part ≡ to - before)
    (is : moved_state before s ≡ state) (lawful : IsLawful rules (from - before) s) (heard : IsPartHeard whole part before (from - before)) where
  -- the run over places of the part
  pub run-in-part : run_in_part part rules s before from to ≡ run whole rules state from (to - from)
  run-in-part = grind (arith, common_steps, moves whole part rules before s (from - before) (to - before - (from - before)) range.loss.0 range.reach lawful heard)

-- the group in progress at the end of the whole
pub end-in-part : EndsMove → (whole part : Signal) (rules : RuleNumbers) (before : ℕ) (s state : State) → moved_state before s ≡ state
    → IsLawful rules (length_of part) s → IsPartHeard whole part before (length_of part) → moved_items before (items_of_end part rules s) ≡ items_of_end whole rules state
end-in-part ends whole part rules before s state is lawful heard = grind (arith, common_steps, ends whole part rules before s lawful heard)

-- the run asked for, by the part that a run over it hears
module _ (bytes : List ℕ) (bits : ℕ) (gaps : List RdsGap) (rules : RdsRules) (from to : ℕ) (s : RdsState) (part : Signal) (numbers : RuleNumbers) (before : ℕ) (here : State)
    (rules_are : numbers ≡ rules_of rules) (begins : before ≤ from) (long : length_of part ≡ to - before) (is : moved_state before here ≡ state_of s)
    (lawful : IsLawful numbers (from - before) here) (heard : IsPartHeard (recording_of bytes bits gaps) part before (from - before))
    (asked_is : IsRun (asked bytes bits gaps rules) from to s) where
  lawful-here : IsLawful (rules_of rules) (from - before) here
  lawful-here = subst (λ (r : RuleNumbers). IsLawful r (from - before) here) rules_are lawful

  -- the run
  pub run-asked : RunsMove → run_in_part part numbers here before from to ≡ run_asked (asked bytes bits gaps rules) from to s
  run-asked moves =
      ap (λ (r : RuleNumbers). run_in_part part r here before from to) rules_are
      ∙ run-in-part moves (recording_of bytes bits gaps) part (rules_of rules) before from to here (state_of s) asked_is.asked.rules.range begins asked_is.order long is lawful-here heard

  -- and the group in progress at the end, where that is the recording's
  pub end-asked : EndsMove → from ≡ to → moved_items before (items_of_end part numbers here) ≡ items_of_end (recording_of bytes bits gaps) (rules_of rules) (state_of s)
  end-asked ends last =
      let end : from - before ≡ length_of part = omega (arith, long, last) in
      ap (λ (r : RuleNumbers). moved_items before (items_of_end part r here)) rules_are
      ∙ end-in-part ends (recording_of bytes bits gaps) part (rules_of rules) before here (state_of s) is
      (subst (λ (n : ℕ). IsLawful (rules_of rules) n here) end lawful-here)
      (subst (λ (n : ℕ). IsPartHeard (recording_of bytes bits gaps) part before n) end heard)
