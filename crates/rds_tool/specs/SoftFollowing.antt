-- Following a stream of symbols: this project's rule. `follow_soft` promises it.
use Rattle.std.specs.{Prelude.◌-◌, Prelude.ℕ, Prelude.List, Prelude.Ok, Prelude.Option, Prelude.Result, Prelude.length, Prelude.true, Prelude.false, List.flat_map}
use Rattle.rds_soft.specs.SoftStream.{SoftTerms, complete, signal_of}
use Rattle.rds_tool.specs.{Following.Stream, Input.and_then, InputOf.InputOf, Soft.recording_of_symbols, Soft.soft_row, Soft.soft_text}
use Rattle.rds_code.specs.declared.error.RdsError.{RdsError}

-- the most symbols that one read gives
abbrev pub most_symbols : ℕ
most_symbols = 4096

-- the rows of the items that are complete once these symbols were heard
abbrev pub soft_rows_so_far : SoftTerms → List ℕ → List ℕ
soft_rows_so_far terms symbols = flat_map soft_row (complete terms symbols)

-- the soft listing of a stream of these symbols
abbrev pub soft_stream_text : SoftTerms → List ℕ → List ℕ
soft_stream_text terms symbols = soft_text true terms.rules terms.margin symbols (signal_of terms symbols)

-- the input of a soft list of a stream
abbrev pub input_of : SoftTerms → Option ℕ → InputOf
input_of terms bits = record { hex = false; bits = bits; gaps = terms.gaps }

-- the outcome of a soft list of these symbols: its text, or the refusal of them
abbrev pub soft_listed : SoftTerms → Option ℕ → List ℕ → Result (List ℕ) RdsError
soft_listed terms bits symbols =
    and_then (recording_of_symbols (input_of terms bits) symbols)
    (λ recording. Ok (soft_text true terms.rules terms.margin symbols recording))

-- the stream of these symbols, between two of which there is a bit
abbrev pub symbol_stream : SoftTerms → Option ℕ → Stream
symbol_stream terms bits = record {
  step = 1;
  size = λ symbols. length symbols - 1;
  claim = bits;
  gaps = terms.gaps;
  most = most_symbols;
  rows = soft_rows_so_far terms;
  text = soft_stream_text terms;
  listed = soft_listed terms bits;
}
