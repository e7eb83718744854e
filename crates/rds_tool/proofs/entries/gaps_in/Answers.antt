use Rattle.clap.specs.Words.{found_of}
use Rattle.rds_tool.proofs.Getters.{no_gaps, read_gaps, unread_gaps}
use Rattle.rds_tool.proofs.entries.gaps_in.Goals as goal

pub returns-in-None-clause-gaps : goal.returns-in-None-clause-gaps
returns-in-None-clause-gaps c = no_gaps (found_of c.args.entries.now) c.get_str.result c.get_str.ensures c.in-None.is c.new.result.items c.new.ensures.items

pub returns-in_ok-gaps_of-in-Some-clause-gaps : goal.returns-in_ok-gaps_of-in-Some-clause-gaps
returns-in_ok-gaps_of-in-Some-clause-gaps c =
    let read = c.in_ok-gaps_of-in-Some in
    read_gaps (found_of c.args.entries.now) c.get_str.result c.get_str.ensures c.in-Some.text c.in-Some.is read.field-0 read.ensures c.ok_or.result c.ok_or.ensures.value

pub returns-in_ok-gaps_of-in-Some-clause-none : goal.returns-in_ok-gaps_of-in-Some-clause-none
returns-in_ok-gaps_of-in-Some-clause-none c =
    let read = c.in_ok-gaps_of-in-Some in
    unread_gaps (found_of c.args.entries.now) c.get_str.result c.get_str.ensures c.in-Some.text c.in-Some.is read.field-0 read.ensures c.ok_or.result c.ok_or.ensures.value
