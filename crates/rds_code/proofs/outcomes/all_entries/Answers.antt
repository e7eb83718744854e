use Rattle.rds_code.proofs.Names.{ℕ, List, sym, subst, arith, StandIn}
use Rattle.rds_code.proofs.OutcomeLemmas.{one_more}
use Rattle.std.specs.Vec.{vec_items}
use Rattle.rds_code.proofs.outcomes.all_entries.Goals as goal

pub loop-remainder-preserved : goal.loop-remainder-preserved
loop-remainder-preserved c =
    let entries : List ℕ = vec_items c.loop-remainder.entries in
    record {
      count = omega (arith, c.push_reserved.ensures.len, c.loop-remainder.invariant.count);
      room = omega (arith, c.loop-remainder.invariant.room);
      entries = subst (StandIn c.args.limit) (sym c.push_reserved.ensures.items)
          (one_more c.args.limit entries c.loop-remainder.remainder c.entry.result (omega (arith, c.loop-remainder.invariant.count)) c.loop-remainder.invariant.entries c.entry.ensures);
    }
