use Rattle.std.proofs.Common.{◌≡◌, ℕ, Bool, ◌%◌, ◌*◌, ◌+◌, ◌^◌, ap, ◌∙◌, cond, sym, if◌then◌else◌}
use Rattle.rds_sync.proofs.{LossLemmas.mask_word, loss.mask_after.Goals.then-good, loss.mask_after.Goals.else-good}
use Rattle.rds_sync.proofs.loss.mask_after.Goals as goal

pub returns : goal.returns
returns c =
    mask_word c.args.mask c.if-good.newest c.args.of c.requires.few
    ∙ ap (λ (n : ℕ). (2 * c.args.mask + n) % 2 ^ c.args.of) newest_is
  where
    newest_is : c.if-good.newest ≡ (if c.args.good then 0 else 1)
    newest_is = elim c.if-good.branch [
      | then-good w ↦ w.newest-is ∙ sym (ap (λ (t : Bool). cond t 0 1) w.if-good.true)
      | else-good w ↦ w.newest-is ∙ sym (ap (λ (t : Bool). cond t 0 1) w.if-good.false)
    ]
