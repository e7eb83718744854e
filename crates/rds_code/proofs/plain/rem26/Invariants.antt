use Rattle.rds_code.proofs.Names.{◌≡◌, ◌-◌, reduce, rem}
use Rattle.rds_code.proofs.plain.rem26.Given as goal

abbrev pub invariant-loop-done : goal.invariant-loop-done
invariant-loop-done l = reduce (16 - l.done) l.left ≡ rem l.fn.w
