use Rattle.rds_sync.proofs.Names.{◌≡◌, ◌-◌, list_any, range_with_len, has_partner}
use Rattle.rds_sync.proofs.acquiring.has_partner_in.Given as goal

-- the distances that are left decide
abbrev pub invariant-loop-distance : goal.invariant-loop-distance
invariant-loop-distance l = list_any (has_partner l.rec l.place l.number) (range_with_len 1 (l.distance-end - 1))
    ≡ list_any (has_partner l.rec l.place l.number) (range_with_len l.distance (l.distance-end - l.distance))
