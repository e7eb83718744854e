use Rattle.rds_stream.proofs.Names.{arith, bit_at_above}
use Rattle.rds_stream.proofs.valid_places.ValidPlaces.of.Goals as goal

pub returns-clause-places : goal.returns-clause-places
returns-clause-places c =
    let word = c.at_once.result in
    let fits = c.at_once.type_inv in
    record {
      order = omega arith;
      width = omega arith;
      told = λ k l. c.at_once.ensures k (omega arith);
      past = λ k l. bit_at_above word 64 k (omega arith) (omega arith);
    }
