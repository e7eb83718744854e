use Rattle.rds_tool.proofs.Names.{common_steps, arith, ◌++◌, ◌≡◌, List, [], append-nil, ℕ}
use Rattle.rds_tool.proofs.{Followed.on_ok, RowText.plain_row_now}
use Rattle.rds_tool.proofs.rows.write_record.Goals as goal

-- all that waited is on the page
moved : (old waits mid more new rest row : List ℕ) → waits ≡ [] → mid ++ more ≡ (old ++ waits) ++ row → new ++ rest ≡ mid ++ more → rest ≡ [] → new ≡ old ++ row
moved old waits mid more new rest row none written kept empty = grind (arith, common_steps, append-nil)

pub returns-clause-text : goal.returns-clause-text
returns-clause-text c = grind (arith, common_steps, plain_row_now, on_ok, moved)
