use Rattle.rds_rows.proofs.Names.{[], ◌≡◌, common_steps, arith, first_parts, kept_in, subst}
use Rattle.rds_rows.proofs.PartsFrom.{put_all, put_rest, round_more}
use Rattle.rds_rows.specs.Rounds.{IsPut}
use Rattle.rds_rows.proofs.rounds.Rounds.write.Goals as goal

pub rounds-init : goal.rounds-init
rounds-init g c = grind (arith, common_steps)

pub rounds-preserved : goal.rounds-preserved
rounds-preserved g c =
    let round = rw c.in-Ok.is at c.round-back.ensures in
    let put = round_more g.W.OwnedSink g.J.PartSpec.part c.rounds.first c.args.self.now.parts (kept_in c.rounds.caller.gathered) _ _ _ _ _ c.rounds.invariant.name c.rounds.invariant.written c.rounds.invariant.count round in
    record { order = round.order.1; name = put.name; written = put.ok; count = put.count }

pub returns-in-Err : goal.returns-in-Err
returns-in-Err g c =
    let round = rw c.in-Err.is at c.round-back.ensures in
    let put = round_more g.W.OwnedSink g.J.PartSpec.part c.rounds.first c.args.self.now.parts (kept_in c.rounds.caller.gathered) _ _ _ _ _ c.rounds.invariant.name c.rounds.invariant.written c.rounds.invariant.count round in
    record { name = put.name; ok = tt; count = tt; failed = put.failed; prefix = put.prefix }

pub returns : goal.returns
returns g c =
    let sink = g.W.OwnedSink in
    let kept = kept_in c.rounds.caller.gathered in
    let last : c.rounds.first ≡ c.args.self.now.parts = omega arith in
    let rest = put_rest sink (first_parts g.J.PartSpec.part c.rounds.first) kept (kept_in c.write_out-wrote.new.self) _ _ _ _ c.rounds.invariant.name c.rounds.invariant.written c.rounds.invariant.count c.write_out-wrote.ensures.put in
    subst (λ n. IsPut sink (first_parts g.J.PartSpec.part n) [] c.args.caller.out c.write_out-wrote.new.out c.write_out-wrote.result) last (put_all sink _ _ _ _ _ rest c.write_out-wrote.ensures.none)
