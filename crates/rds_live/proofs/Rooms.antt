-- The windows heard in the room of a stream's last bytes.
use Rattle.rds_live.proofs.Names.{common_steps, ◌≡◌, ℕ, ◌+◌, ◌*◌, ◌<◌, ◌≤◌, List, ◌++◌, length, drop, Bool, true, false, Option, Some, None, refl, sym, ap, ap₂, ◌∙◌, arith, inl, length-drop, drop-append-le, take-append-le, length-map-range_with_len, AreGaps, Signal, bits_of, packed_bit, window, touched, heard, length_of, State, Item, IsInRange, RuleNumbers, IsLawful, run, RunsMove, IsPartHeard, gaps_within, signal_of, filled_up}
use Rattle.rds_live.proofs.{GapParts.filled-up-touched, Following.still-state, Following.still-items}

-- a window of a list that goes on
window-before : (xs ys : List ℕ) (i : ℕ) → 25 ≤ i → i < length xs → window xs i ≡ window (xs ++ ys) i
unfolding window
window-before xs ys i late within = grind (arith, common_steps, drop-append-le, take-append-le, length-drop)

-- the bytes that a room was filled with are heard in it
module _ (top before slots : ℕ) (gaps : List (ℕ × ℕ)) (are : AreGaps top gaps) (bytes old : List ℕ) (fits : length bytes ≤ 990) where
  abbrev m : ℕ
  m = 8 * length bytes

  abbrev part : Signal
  part = signal_of (gaps_within gaps before m) bytes

  abbrev filled : Signal
  filled = record { bits = bits_of bytes m ++ drop m old; gaps = filled_up (gaps_within gaps before 7920) slots }

  same-heard : (i : ℕ) → 25 ≤ i → i < m → heard part i ≡ heard filled (i + 0)
  unfolding heard touched
  same-heard i late early =
      let e : i ≡ i + 0 = omega arith in
      ap₂ (λ (t : Bool) (w : ℕ). elim t as (λ _. Option ℕ) [ true ↦ None | false ↦ Some w ])
      (filled-up-touched top before m slots gaps are (omega (arith, fits)) i late early)
      (window-before (bits_of bytes m) (drop m old) i late (omega (arith, early, length-map-range_with_len (packed_bit bytes) 0 m)) ∙ ap (λ (p : ℕ). window (bits_of bytes m ++ drop m old) p) e)

  pub heard-filled : IsPartHeard filled part 0 0
  heard-filled = grind (arith, common_steps, same-heard, length-map-range_with_len)

-- a run over the bits heard is the run over the room
pub run-in-room : (moves : RunsMove) (room part : Signal) (rules : RuleNumbers) (s : State) (from n : ℕ) → IsInRange rules → IsPartHeard room part 0 0 → IsLawful rules from s
    → from + n ≤ length_of part → run room rules s from n ≡ run part rules s from n
run-in-room moves room part rules s from n range heard lawful within =
    let there = run part rules s from n in
    let start : from ≡ from + 0 = omega arith in
    ap (λ (p : ℕ). run room rules s p n) start
    ∙ ap (λ (t : State). run room rules t (from + 0) n) (sym (still-state s))
    ∙ moves room part rules 0 s from n range.loss.0 range.reach lawful (record { heard_same = heard.heard_same; early = inl refl }) within
    ∙ ap₂ (λ (t : State) (items : List Item). (t, items)) (still-state there.0) (still-items there.1)
