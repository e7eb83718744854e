use Rattle.std.{proofs.Common.ap, proofs.Common.sym, proofs.Common.◌∙◌, specs.Prelude.ℕ, specs.Prelude.nat_le}
use Rattle.rds_sync.specs.{declared.loss.Loss.Loss, Loss.are_too_many}
use Rattle.rds_sync.proofs.loss.Loss.are_too_many.Goals as goal

pub returns-in-Run : goal.returns-in-Run
returns-in-Run c =
    ap (λ (n : ℕ). nat_le n c.args.bad) c.from.ensures ∙ sym (ap (λ (loss : Loss). are_too_many loss c.args.bad) c.in-Run.is)

pub returns-in-Share : goal.returns-in-Share
returns-in-Share c = sym (ap (λ (loss : Loss). are_too_many loss c.args.bad) c.in-Share.is)
