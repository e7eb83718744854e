use Rattle.rds_tool.proofs.JobLaws.{encoded_groups_are_listed, encoded_groups_are_taken}
use Rattle.rds_tool.proofs.laws.encoded_groups_are_listed.Goals as goal

pub returns-clause-listed : goal.returns-clause-listed
returns-clause-listed c = encoded_groups_are_listed c.encoded_groups_are_listed.ensures.listed c.packed_groups_are_sent.ensures

pub returns-clause-taken : goal.returns-clause-taken
returns-clause-taken c = encoded_groups_are_taken c.encoded_groups_are_listed.ensures.listed c.packed_groups_are_sent.ensures
