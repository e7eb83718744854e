use Rattle.rds_abi.proofs.{Shared.arith, Shared.◌∙◌, Shared.length-set, Shared.packed}
use Rattle.rds_live.proofs.Moves.{one-changed, still-left}
use Rattle.rds_abi.proofs.groups.encode_all.Goals as goal

pub loop-i-preserved : goal.loop-i-preserved
loop-i-preserved c =
    let loop = c.loop-i in
    record {
      written = rw c.pack_group.ensures
          (one-changed packed c.args.groups.now loop.room loop.i _ c.loop-i-test.true (omega (arith, loop.invariant.same, c.requires, c.loop-i-test.true)) loop.invariant.written);
      kept = still-left c.args.room.now loop.room loop.i c.pack_group.result loop.invariant.kept;
      same = length-set loop.room loop.i c.pack_group.result ∙ loop.invariant.same;
    }
