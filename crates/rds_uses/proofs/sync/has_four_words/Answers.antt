use Rattle.std.proofs.Common.{arith}
use Rattle.rds_uses.proofs.sync.has_four_words.Goals as goal

pub returns : goal.returns
returns c =
    let is_read = c.groups_are_read.ensures c.args.recording.now c.args.rules.now 1 4 c.args.place (omega arith) (omega arith) (omega arith) (omega arith) in
    rw (c.is_complete.ensures, c.requires.group) is_read.complete
