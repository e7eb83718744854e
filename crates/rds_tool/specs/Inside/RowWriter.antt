-- A writer of rows of `csv` that has moved all rows to a page, and fields that it writes as they are. `RowWriter` and
-- `Page` cite it, and no public call.
use Rattle.std.specs.Prelude.{◌≡◌, ◌≤◌, ℕ, List, [], false, length}
use Rattle.csv.specs.{Writing.default_writer, Writing.fields_written, Writing.has_written, Writing.needs_quotes, Writing.writer_pending, Writing.writer_setup, declared.writer.Writer.Writer}

-- it has the defaults of `csv`, no field of a row is written yet, and no byte waits
pub record IsBetween {W : Type 0} (rows : Writer W) : Type 0 where
  pub setup : writer_setup rows ≡ default_writer
  pub fields : fields_written rows ≡ 0
  pub wrote : has_written rows ≡ false
  pub pending : writer_pending rows ≡ []

-- a field that is written as it is, without quotes
abbrev pub IsPlain : List ℕ → Type 0
IsPlain field = needs_quotes default_writer field ≡ false

-- a field that is no longer than the longest number
abbrev pub IsShort : List ℕ → Type 0
IsShort field = length field ≤ 20
