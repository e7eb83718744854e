use Rattle.rds_tool.proofs.Names.{◌∙◌, List, Ok, Result, ap, sym, ℕ, RdsError, Signal, and_then, totals_list, totals_text}
use Rattle.rds_tool.proofs.counting.InputCounterTaker.finish.Goals as goal

pub returns-clause-ok : goal.returns-clause-ok
returns-clause-ok g c =
    let (recording, made, sum) = c.in_ok-totals.ensures.totals in
    ap (λ (read : Result Signal RdsError). and_then read (λ b. Ok (totals_list c.args.self.rules b))) made
    ∙ ap (λ totals. Ok (totals_text totals)) (sym sum) ∙ ap (λ (text : List ℕ). Ok text) (sym c.in_ok-totals_rows.ensures.rows)
