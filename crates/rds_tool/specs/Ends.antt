-- The view that clauses have of a source over a reader of std, and of a sink over a writer. `FromRead::new`,
-- `ToWrite::new` and `into_inner` cite it.
use Rattle.std.specs.Prelude.{ℕ, Bool, List}
use Rattle.rds_tool.specs.declared.devices.{FromRead.FromRead, ToWrite.ToWrite}

-- the reader underneath
abbrev pub reader_under : {R : Type 0} → FromRead R → R
reader_under source = source.reader

-- how many of its reads have failed
abbrev pub read_failures : {R : Type 0} → FromRead R → ℕ
read_failures source = source.failures

-- the writer underneath
abbrev pub writer_under : {W : Type 0} {g : _} → ToWrite W g → W
writer_under sink = sink.writer

-- how many of its writes and flushes have failed
abbrev pub write_failures : {W : Type 0} {g : _} → ToWrite W g → ℕ
write_failures sink = sink.failures

-- the bytes that it gave since it was made
abbrev pub given_by : {R : Type 0} → FromRead R → List ℕ
given_by source = source.history.bytes

-- its last read answered the end
abbrev pub has_ended : {R : Type 0} → FromRead R → Bool
has_ended source = source.ended

-- the bytes that it took since it was made
abbrev pub taken_by : {W : Type 0} {g : _} → ToWrite W g → List ℕ
taken_by sink = sink.history.bytes

-- the writer as it was when the sink was made
abbrev pub begun_by : {W : Type 0} {g : _} → ToWrite W g → W
begun_by sink = sink.begun.value

-- its last call was a flush that went well
abbrev pub is_flushed : {W : Type 0} {g : _} → ToWrite W g → Bool
is_flushed sink = sink.flushed
