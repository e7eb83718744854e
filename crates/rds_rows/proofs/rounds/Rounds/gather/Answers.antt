use Rattle.rds_rows.proofs.Names.{arith, kept_in}
use Rattle.rds_rows.proofs.PartsFrom.{prefix_of_round, put_next}
use Rattle.rds_rows.proofs.rounds.Rounds.gather.Goals as goal

pub returns-in_default : goal.returns-in_default
returns-in_default g c =
    let head = kept_in c.args.caller.gathered in
    let put = put_next g.W.OwnedSink g.J.PartSpec.part c.args.first c.loop-k.k head (kept_in c.loop-k.caller.gathered) _ _ _ _ _ (omega arith) c.loop-k.invariant.name c.loop-k.invariant.written c.loop-k.invariant.count c.in_default.ensures in
    record {
      order = (c.requires.order, omega arith);
      put = record { name = put.name; ok = tt; count = tt; failed = put.failed; prefix = prefix_of_round _ _ g.J.PartSpec.part c.args.first c.loop-k.k c.args.self.now.parts head (omega arith) put.prefix };
    }

pub returns-then-alone-len : goal.returns-then-alone-len
returns-then-alone-len g c = record {
  order = (omega arith, omega arith);
  put = put_next g.W.OwnedSink g.J.PartSpec.part c.args.first c.loop-k.k (kept_in c.args.caller.gathered) (kept_in c.loop-k.caller.gathered) _ _ _ _ _ (omega arith) c.loop-k.invariant.name c.loop-k.invariant.written c.loop-k.invariant.count c.in-Ok.ensures;
}

pub loop-k-preserved : goal.loop-k-preserved
loop-k-preserved g c =
    let put = put_next g.W.OwnedSink g.J.PartSpec.part c.args.first c.loop-k.k (kept_in c.args.caller.gathered) (kept_in c.loop-k.caller.gathered) _ _ _ _ _ (omega arith) c.loop-k.invariant.name c.loop-k.invariant.written c.loop-k.invariant.count c.in-Ok.ensures in
    record { name = put.name; written = put.ok; count = put.count }
