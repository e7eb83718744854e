use Rattle.rds_sync.proofs.Lemmas.{◌≡◌, ◌∙◌, ap, ℕ, Bool, Loss, bad_after, blocks_in, kept-over}
use Rattle.rds_sync.proofs.four_blocks.bad_after_each.Goals as goal

good : (loss : Loss) (bad : ℕ) {g h : Bool} → g ≡ h → bad_after loss g bad ≡ bad_after loss h bad
good loss bad is = ap (λ (t : Bool). bad_after loss t bad) is

pub returns : goal.returns
returns c =
    kept-over c.args.loss (blocks_in c.args.word) c.args.bad (c.in_ok-one.ensures.bad ∙ good c.args.loss _ c.was_valid.ensures) (c.in_ok-two.ensures.bad ∙ good c.args.loss _ c.was_valid-2.ensures)
    (c.in_ok-three.ensures.bad ∙ good c.args.loss _ c.was_valid-3.ensures) (c.in_ok-four.ensures.bad ∙ good c.args.loss _ c.was_valid-4.ensures)
    c.in_ok-four.ensures.lawful c.in_ok-one.ensures.kept c.in_ok-two.ensures.kept c.in_ok-three.ensures.kept c.in_ok-four.ensures.kept
