use Rattle.rds_tool.proofs.Names.{◌∙◌, sym, length-map-range_with_len, length_of, valid_at, row_where}
use Rattle.rds_tool.proofs.window_rows.WindowRowsRows.len.Goals as goal

pub returns : goal.returns
returns c = c.len.ensures.value ∙ sym (length-map-range_with_len (λ i. row_where (valid_at c.args.self.now.recording.now i)) 0 (length_of c.args.self.now.recording.now))
