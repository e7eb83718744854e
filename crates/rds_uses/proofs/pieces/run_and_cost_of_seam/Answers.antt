use Rattle.rds_uses.proofs.Names.{IfOk-weaker, ap, arith, sound_bits, ◌≡◌}
use Rattle.rds_sync.specs.declared.loss.Loss.{Loss}
use Rattle.rds_uses.proofs.pieces.run_and_cost_of_seam.Goals as goal

pub returns-clause-soon : goal.returns-clause-soon
returns-clause-soon g c = IfOk-weaker c.seam.result _ _ (λ seam soon loss sound inside.
    let bits : sound_bits c.args.rules.now.loss 0 ≡ 416 = ap (λ (l : Loss). sound_bits l 0) loss in
    let met = soon 0 c.args.run.now.from sound.0 sound.1 sound.2 (omega arith) (omega (arith, bits, inside)) in
    (met.0, met.1, omega (arith, bits, met.2)))
    c.seam.ensures.soon
