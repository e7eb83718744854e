use Rattle.rds_stream.specs.Inside.ValidPlaces.{TellsValidPlaces}
use Rattle.rds_stream.proofs.valid_places.one_by_one.Given as goal

abbrev pub invariant-loop-place : goal.invariant-loop-place
invariant-loop-place l = TellsValidPlaces l.recording l.from l.place l.places
