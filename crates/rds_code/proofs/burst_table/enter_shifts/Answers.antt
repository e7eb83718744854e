use Rattle.rds_code.proofs.Names.{common_steps, ◌≡◌, ℕ, ◌+◌, ◌*◌, ◌%◌, ◌^◌, ◌<◌, sym, subst, arith, pow_mono, List, mul-le-mul_right, below_more, IsBurst, IsSound, HasBurst}
use Rattle.rds_code.proofs.{BurstLemmas.pattern_is_burst, burst_table.enter_shifts.Goals.then-burst, burst_table.enter_shifts.Goals.else-burst}
use Rattle.rds_code.proofs.burst_table.enter_shifts.Goals as goal

-- so short a pattern loses nothing by a shift
whole : (m t : ℕ) → m < 32 → t < 26 → m * 2 ^ t % 2 ^ 32 ≡ m * 2 ^ t
whole m t few shift = grind (arith, common_steps, mul-le-mul_right, pow_mono)

-- a pattern that is in the table up to a shift, and at it, is there up to the next
EnteredAt : List ℕ → ℕ → ℕ → Type 0
EnteredAt patterns m shift = m * 2 ^ shift < 2 ^ 26 → HasBurst patterns (m * 2 ^ shift)

pub enter-requires-clause-burst : goal.enter-requires-clause-burst
enter-requires-clause-burst c = grind (arith, common_steps, whole, pattern_is_burst)

pub loop-shift-preserved : goal.loop-shift-preserved
unfolding EnteredAt
loop-shift-preserved c =
    let m = c.args.pattern in
    let t = c.loop-shift.shift in
    let before = c.loop-shift.invariant in
    let same = whole m t c.requires.short c.loop-shift-test.true in
    elim c.if-burst.branch [
      | then-burst w ↦ subst (λ (patterns : List ℕ). record {
        sound : IsSound patterns;
        entered : (shift : ℕ) → shift < t + 1 → m * 2 ^ shift < 2 ^ 26 → HasBurst patterns (m * 2 ^ shift);
        kept : (e : ℕ) → IsBurst 5 e → HasBurst c.args.patterns.now e → HasBurst patterns e;
      }) (sym w.patterns-is) record {
        sound = w.enter.ensures.sound;
        entered = below_more (EnteredAt w.enter.new.patterns m) t
            (λ shift less block. w.enter.ensures.kept (m * 2 ^ shift) (pattern_is_burst m shift c.requires.odd c.requires.short (omega (arith, less, c.loop-shift-test.true)) block) (before.entered shift less block))
            (λ block. subst (HasBurst w.enter.new.patterns) same w.enter.ensures.entered);
        kept = λ e h stood. w.enter.ensures.kept e h (before.kept e h stood);
      }
      | else-burst w ↦ subst (λ (patterns : List ℕ). record {
        sound : IsSound patterns;
        entered : (shift : ℕ) → shift < t + 1 → m * 2 ^ shift < 2 ^ 26 → HasBurst patterns (m * 2 ^ shift);
        kept : (e : ℕ) → IsBurst 5 e → HasBurst c.args.patterns.now e → HasBurst patterns e;
      }) (sym w.patterns-is) record {
        sound = before.sound;
        entered = below_more (EnteredAt c.loop-shift.patterns m) t before.entered (λ block. absurd (omega (arith, same, block, w.if-burst.false)));
        kept = before.kept;
      }
    ]
