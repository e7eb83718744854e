use Rattle.rds_live.proofs.Names.{◌≡◌, ◌≤◌, ◌+◌, ◌*◌, ◌++◌, length, min, vec_capacity, completed, live_next}
use Rattle.rds_live.proofs.stream_decoder.decode_bytes.Given as goal

abbrev pub invariant-loop-rest : goal.invariant-loop-rest
invariant-loop-rest l = record {
  terms : l.live.terms ≡ l.fn.live.terms;
  next : live_next l.live l.rest ≡ live_next l.fn.live l.bytes;
  completed : l.items.items ++ completed l.live l.rest ≡ completed l.fn.live l.bytes;
  place : l.live.place + 8 * length l.rest ≡ l.fn.live.place + 8 * length l.bytes;
  few : length l.rest ≤ length l.bytes;
  room : 16 * min (length l.bytes) 960 ≤ vec_capacity l.some;
}

abbrev pub decreases-loop-rest : goal.decreases-loop-rest
decreases-loop-rest l = length l.rest
