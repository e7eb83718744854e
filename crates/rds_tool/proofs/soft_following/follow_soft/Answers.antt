use Rattle.rds_tool.proofs.Names.{◌++◌, ◌∙◌, Err, ap, sym, soft_rows_so_far}
use Rattle.rds_tool.proofs.{Followed.follows_err, Passing.passed, SoftFollowed.breaks-end, SoftFollowed.follows-end}
use Rattle.rds_tool.proofs.soft_following.follow_soft.Goals as goal

pub returns-in_err-stream : goal.returns-in_err-stream
returns-in_err-stream g c = follows_err _ _ (passed _ _ c.from_residual.ensures) c.in_err-stream.ensures.broke

pub returns-in_err-rows : goal.returns-in_err-rows
returns-in_err-rows g c =
    let stream = c.in_ok-stream.ensures in
    let rows = c.in_err-rows.ensures in
    follows_err _ _ (passed _ _ c.from_residual-in_err-rows.ensures)
    (breaks-end _ _ _ _ _ stream.heard.0 stream.heard.1 stream.near _ rows.kinds (λ p. rows.past (ap (λ x. Err x) p)) (λ p. rows.bad_gaps (ap (λ x. Err x) p)))

pub returns : goal.returns
returns g c =
    let stream = c.in_ok-stream.ensures in
    let end = c.in_ok-rows.ensures in
    let wrote = c.write_flushed.ensures in
    follows-end _ _ _ _ _ stream.heard.0 stream.heard.1 stream.near _ c.write_flushed.result _
    (end.rows ∙ ap (λ ys. soft_rows_so_far c.in_ok-stream.stream.terms c.in_ok-stream.stream.symbols ++ ys) (sym c.as_slice.ensures.value))
    end.enough end.fits end.gaps wrote.kinds wrote.ok wrote.flushed wrote.write wrote.prefix
