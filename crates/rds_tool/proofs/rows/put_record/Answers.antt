use Rattle.rds_tool.proofs.Names.{common_steps, arith, row}
use Rattle.rds_tool.proofs.{RowText.row_short_now, RowText.text_short, Spelled.bytes_after}
use Rattle.rds_tool.proofs.rows.put_record.Goals as goal

-- of the page of `csv` the bytes that were written last are the row
pub put_all-requires : goal.put_all-requires
put_all-requires c = grind (arith, common_steps, row, row_short_now, bytes_after)

pub returns-clause-text : goal.returns-clause-text
returns-clause-text c = grind (arith, common_steps, row, bytes_after)

pub returns-clause-short : goal.returns-clause-short
returns-clause-short c = grind (arith, common_steps, text_short, returns-clause-text, row_short_now)
