use Rattle.rds_tool.proofs.Recorded.{made_is, refused_is}
use Rattle.rds_tool.proofs.input.first_bits.Goals as goal

pub returns-in-Ok : goal.returns-in-Ok
returns-in-Ok c =
    let made = c.with_gaps.ensures in
    made_is c.args.bytes c.args.bits c.args.gaps c.with_gaps.result made.taken c.in-Ok.recording c.in-Ok.is made.held

pub returns-in-Err : goal.returns-in-Err
returns-in-Err c =
    let made = c.with_gaps.ensures in
    refused_is c.args.bytes c.args.bits c.args.gaps c.with_gaps.result made.taken c.in-Err.error c.in-Err._bytes c.in-Err._gaps c.in-Err.is made.too_long made.past_bytes made.bad_gaps
