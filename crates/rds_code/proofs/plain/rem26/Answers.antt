use Rattle.std.proofs.Common.{zero-mul, one-mul}
use Rattle.rds_code.proofs.Names.{common_steps, ◌≡◌, ℕ, suc, ◌+◌, ◌-◌, ◌*◌, ◌%◌, ◌^◌, ◌<◌, ◌≤◌, ◌∙◌, ap, sym, arith, bit_xor, pow_mono, bit_at, xor_comm, shr_and_one, bit_at-lt, xor_zero_l, reduce, rem, generator}
use Rattle.rds_code.proofs.{RemainderLemmas.rem-is, RemainderLemmas.rem-lt, RemainderLemmas.reduce-suc, RemainderLemmas.reduce-all, RemainderLemmas.reduce-none, plain.rem26.Goals.then-left-shift-eq1, plain.rem26.Goals.else-left-shift-eq1}
use Rattle.rds_code.proofs.plain.rem26.Goals as goal

-- a turn of the loop takes off the copy of the generator that clears its place
turn : (done left w : ℕ) → done < 16 → reduce (16 - done) left ≡ rem w → reduce (16 - (done + 1)) (bit_xor (bit_at left (15 - done + 10) * (generator * 2 ^ (15 - done))) left) ≡ rem w
turn done left w more h =
    let here : 16 - done ≡ suc (15 - done) = omega arith in
    let next : 16 - (done + 1) ≡ 15 - done = omega arith in
    ap (λ (k : ℕ). reduce k (bit_xor (bit_at left (15 - done + 10) * (generator * 2 ^ (15 - done))) left)) next
    ∙ sym (reduce-suc (15 - done) left) ∙ ap (λ (k : ℕ). reduce k left) (sym here) ∙ h

cleared : (k left : ℕ) → k < 16 → bit_at left (k + 10) ≡ 1 → bit_xor (bit_at left (k + 10) * (generator * 2 ^ k)) left ≡ bit_xor left (generator * 2 ^ k % 2 ^ 32)
cleared k left small one =
    let few : 2 ^ k ≤ 2 ^ 15 = pow_mono {i = k} {j = 15} (omega arith) in
    let fits : generator * 2 ^ k % 2 ^ 32 ≡ generator * 2 ^ k = omega arith in
    ap (λ (t : ℕ). bit_xor (t * (generator * 2 ^ k)) left) one
    ∙ ap (λ (n : ℕ). bit_xor n left) (one-mul (generator * 2 ^ k))
    ∙ xor_comm (generator * 2 ^ k) left
    ∙ ap (bit_xor left) (sym fits)

kept : (k left : ℕ) → bit_at left (k + 10) ≡ 0 → bit_xor (bit_at left (k + 10) * (generator * 2 ^ k)) left ≡ left
kept k left none = ap (λ (t : ℕ). bit_xor (t * (generator * 2 ^ k)) left) none ∙ ap (λ (n : ℕ). bit_xor n left) (zero-mul (generator * 2 ^ k)) ∙ xor_zero_l left

divided : (done left w : ℕ) → 16 ≤ done → reduce (16 - done) left ≡ rem w → left ≡ rem w
divided done left w ended h = grind (arith, common_steps, reduce-none)

pub loop-done-init : goal.loop-done-init
loop-done-init c = reduce-all c.args.w

pub loop-done-preserved : goal.loop-done-preserved
loop-done-preserved c =
    let done = c.loop-done.done in
    let left = c.loop-done.left in
    let shift = 15 - done in
    let off = turn done left c.args.w c.loop-done-test.true c.loop-done.invariant in
    let tested = shr_and_one left (shift + 10) in
    elim c.if-left-shift-eq1.branch [
      | then-left-shift-eq1 b ↦
          let one : bit_at left (shift + 10) ≡ 1 = sym tested ∙ b.if-left-shift-eq1.true in
          ap (reduce (16 - (done + 1))) (b.left-is ∙ sym (cleared shift left (omega arith) one)) ∙ off
      | else-left-shift-eq1 b ↦
          let none : bit_at left (shift + 10) ≡ 0 = omega (arith, tested, bit_at-lt left (shift + 10), b.if-left-shift-eq1.false) in
          ap (reduce (16 - (done + 1))) (b.left-is ∙ sym (kept shift left none)) ∙ off
    ]

pub overflow_cast-result : goal.overflow_cast-result
overflow_cast-result c = grind (arith, common_steps, divided, rem-lt)

pub returns-clause-value : goal.returns-clause-value
returns-clause-value c = divided c.loop-done.done c.loop-done.left c.args.w (omega arith) c.loop-done.invariant

pub returns-clause-remainder : goal.returns-clause-remainder
returns-clause-remainder c = grind (arith, common_steps, divided, rem-is)
