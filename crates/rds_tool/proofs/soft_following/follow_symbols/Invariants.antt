use Rattle.rds_tool.proofs.Names.{◌+◌, ◌-◌, ◌^◌, ◌≡◌, length, IsHeard, most_symbols, symbol_stream}
use Rattle.rds_tool.proofs.soft_following.follow_symbols.Given as goal

abbrev pub invariant-reads : goal.invariant-reads
invariant-reads g l = record {
  heard : IsHeard g.S.Source g.K.Sink (symbol_stream (record { rules = l.fn.rules; gaps = l.fn.gaps; margin = l.fn.margin }) l.fn.bits)
      l.fn.reader l.reader l.fn.writer l.writer l.stream.symbols
      × (l.stream.terms ≡ record { rules = l.fn.rules; gaps = l.fn.gaps; margin = l.fn.margin });
  room : length l.buf.items ≡ most_symbols;
}

abbrev pub decreases-reads : goal.decreases-reads
decreases-reads g l = 2 ^ 36 + 1 - length l.stream.symbols
