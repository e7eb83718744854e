use Rattle.rds_live.proofs.Names.{◌≡◌, ◌+◌, ◌-◌, ◌*◌, ◌≤◌, length, vec_capacity, lister_next, IsWithin}
use Rattle.rds_live.proofs.stream_lister.StreamLister.list_alone.Given as goal

abbrev pub invariant-loop-rest : goal.invariant-loop-rest
invariant-loop-rest g l = record {
  next : lister_next g.T.ItemRows.row_of (record { live = l.live; rows = g.T.ItemRows.rows l.rows }) l.rest ≡ lister_next g.T.ItemRows.row_of l.fn.self l.bytes;
  place : l.live.place + 8 * length l.rest ≡ l.fn.self.live.place + 8 * length l.bytes;
  few : length l.rest ≤ length l.bytes;
  small : IsWithin (8 * (length l.bytes - length l.rest)) l.fn.self.live.totals l.live.totals;
  room : 15360 ≤ vec_capacity l.items;
}

abbrev pub decreases-loop-rest : goal.decreases-loop-rest
decreases-loop-rest g l = length l.rest
