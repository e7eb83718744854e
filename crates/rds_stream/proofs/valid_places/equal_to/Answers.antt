use Rattle.rds_stream.proofs.Names.{◌≡◌, ◌↔◌, ◌+◌, ◌-◌, ◌∙◌, sym, subst, ap, refl, arith, get_or, bit_at, bit_at_ones, bit_at-zero, shr_and_one, get_or-replicate, lane}
use Rattle.rds_stream.proofs.{Agreement.Agree, Agreement.agree_more, Agreement.agree_is, Agreement.not_one, valid_places.equal_to.Goals.then-word-r-eq1, valid_places.equal_to.Goals.else-word-r-eq1}
use Rattle.rds_stream.proofs.valid_places.equal_to.Goals as goal

pub loop-r-init : goal.loop-r-init
loop-r-init c j k l m = (λ h r no. absurd (omega arith), λ h. ap (λ x. bit_at x k) (get_or-replicate 2 j 18446744073709551615 0 l) ∙ bit_at_ones 64 k (omega arith))

pub loop-r-preserved : goal.loop-r-preserved
loop-r-preserved c j k l m =
    let planes = c.args.planes.now in
    let word = c.args.word in
    let r = c.loop-r.r in
    let tested = shr_and_one word r in
    let turn : bit_at c.if-word-r-eq1.flip k ≡ 1 - bit_at word r = elim c.if-word-r-eq1.branch [
      | then-word-r-eq1 w ↦ ap (λ x. bit_at x k) w.flip-is ∙ bit_at-zero k ∙ ap (λ x. 1 - x) (sym (sym tested ∙ w.if-word-r-eq1.true))
      | else-word-r-eq1 w ↦ ap (λ x. bit_at x k) w.flip-is ∙ bit_at_ones 64 k (omega arith) ∙ ap (λ x. 1 - x) (sym (not_one word r (λ h. w.if-word-r-eq1.false (tested ∙ h))))
    ] in
    subst (λ x. (bit_at x k ≡ 1) ↔ Agree planes word (r + 1) j k) (sym (c.narrow-same.ensures.each j l))
    (agree_more planes word (get_or c.loop-r.same j 0) (lane planes r j) c.if-word-r-eq1.flip r j k refl turn (c.loop-r.invariant j k l m))

pub returns : goal.returns
returns c j k remainder l m held =
    let ten : c.loop-r.r ≡ 10 = omega arith in
    let agree = subst (λ n. (bit_at (get_or c.loop-r.same j 0) k ≡ 1) ↔ Agree c.args.planes.now c.args.word n j k) ten (c.loop-r.invariant j k l m) in
    let is = agree_is c.args.planes.now c.args.word remainder j k c.requires held in
    (λ h. is.0 (agree.0 h), λ e. agree.1 (is.1 e))
