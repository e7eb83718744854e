use Rattle.rds_tool.proofs.Names.{length, ◌-◌, ◌^◌, ◌≡◌, List, ℕ, live_of, bit_stream, most_read, IsHeard}
use Rattle.rds_tool.proofs.following.follow_bytes.Given as goal

abbrev pub invariant-reads : goal.invariant-reads
invariant-reads g l = record {
  heard : (heard : List ℕ) × IsHeard g.S.Source g.K.Sink (bit_stream (record { rules = l.fn.rules; gaps = l.fn.gaps }) l.fn.workers l.fn.bits)
      l.fn.reader l.reader l.fn.writer l.writer heard
      × (l.lister.live ≡ live_of (record { rules = l.fn.rules; gaps = l.fn.gaps }) heard);
  room : length l.buf.items ≡ most_read l.fn.workers;
}

abbrev pub decreases-reads : goal.decreases-reads
decreases-reads g l = 2 ^ 36 - l.lister.live.place
