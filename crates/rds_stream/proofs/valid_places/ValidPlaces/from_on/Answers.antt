use Rattle.std.proofs.Common.{arith}
use Rattle.rds_stream.proofs.ValidPlaceLemmas.{later_places}
use Rattle.rds_stream.proofs.valid_places.ValidPlaces.from_on.Goals as goal

pub returns-then-place-self-clause-places : goal.returns-then-place-self-clause-places
returns-then-place-self-clause-places c b places =
    later_places b c.args.self.next c.args.self.ahead c.args.self.word c.args.place places c.requires.order (omega (arith, c.if-place-self.true))
