use Rattle.rds_tool.proofs.Names.{refl, with_command, with_each}
use Rattle.rds_tool.proofs.Options.{begun, ended, next}
use Rattle.rds_tool.proofs.commands.with_commands.Goals as goal

pub loop-row-init : goal.loop-row-init
loop-row-init c = λ app reads. begun with_command (with_each with_command app c.args.rows.now) c.args.top app c.args.rows.now reads refl

pub loop-row-preserved : goal.loop-row-preserved
loop-row-preserved c = λ app reads.
    next with_command (with_each with_command app c.args.rows.now) c.loop-row.top c.in_ok-top.top c.args.rows.now c.loop-row.row-index _
    (c.loop-row.invariant app reads) c.loop-row-test.true c.in_ok-top.ensures

pub returns : goal.returns
returns c = λ app reads.
    ended with_command (with_each with_command app c.args.rows.now) c.loop-row.top c.args.rows.now c.loop-row.row-index (c.loop-row.invariant app reads) c.loop-row-test.false
