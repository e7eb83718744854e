use Rattle.rds_live.proofs.Names.{◌≡◌, ◌+◌, ◌-◌, ◌*◌, ◌≤◌, length, IsWithin, live_next}
use Rattle.rds_live.proofs.stream_decoder.StreamDecoder.count.Given as goal

abbrev pub invariant-loop-rest : goal.invariant-loop-rest
invariant-loop-rest l = record {
  next : live_next l.self l.rest ≡ live_next l.fn.self l.bytes;
  place : l.self.place + 8 * length l.rest ≡ l.fn.self.place + 8 * length l.bytes;
  few : length l.rest ≤ length l.bytes;
  small : IsWithin (8 * (length l.bytes - length l.rest)) l.fn.self.totals l.self.totals;
}

abbrev pub decreases-loop-rest : goal.decreases-loop-rest
decreases-loop-rest l = length l.rest
