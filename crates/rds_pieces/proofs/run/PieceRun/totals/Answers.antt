use Rattle.rds_pieces.proofs.Names.{◌-◌, ap, ◌∙◌, totals_of, guess, RunOf}
use Rattle.rds_pieces.proofs.run.PieceRun.totals.Goals as goal

pub returns : goal.returns
returns c =
    c.self.invariant.counted
    ∙ ap (λ (r : RunOf). totals_of (guess r.source r.rules r.from (r.to - r.from)).1) c.self.view_is
