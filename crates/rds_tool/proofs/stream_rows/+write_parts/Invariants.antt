use Rattle.std.proofs.Common.{length}
use Rattle.rds_tool.proofs.stream_rows.+write_parts.Given as goal

abbrev pub decreases-write_parts : goal.decreases-write_parts
decreases-write_parts g l = length l.parts.now
