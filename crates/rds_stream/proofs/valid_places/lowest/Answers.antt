use Rattle.rds_stream.proofs.Names.{arith, w64, bit_at-trailing_zeros}
use Rattle.rds_stream.proofs.valid_places.lowest.Goals as goal

pub returns : goal.returns
returns c =
    let place = bit_at-trailing_zeros w64 c.args.word (omega (arith, c.requires)) c.ranges.word.fits in
    record { bound = place.0; set = place.1; below = place.2 }
