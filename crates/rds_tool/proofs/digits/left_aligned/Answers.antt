use Rattle.std.proofs.Common.{arith}
use Rattle.rds_tool.proofs.Decimals.{aligned, aligned_one, spelled}
use Rattle.rds_tool.proofs.digits.left_aligned.Goals as goal

pub returns-then-n-ge10000000-clause-digits : goal.returns-then-n-ge10000000-clause-digits
returns-then-n-ge10000000-clause-digits c = spelled 7 c.args.n (omega arith) (omega arith) (omega arith)

pub returns-then-n-ge1000000-clause-digits : goal.returns-then-n-ge1000000-clause-digits
returns-then-n-ge1000000-clause-digits c = aligned 6 1 c.args.n (omega arith) (omega arith) (omega arith)

pub returns-then-n-ge100000-clause-digits : goal.returns-then-n-ge100000-clause-digits
returns-then-n-ge100000-clause-digits c = aligned 5 2 c.args.n (omega arith) (omega arith) (omega arith)

pub returns-then-n-ge10000-clause-digits : goal.returns-then-n-ge10000-clause-digits
returns-then-n-ge10000-clause-digits c = aligned 4 3 c.args.n (omega arith) (omega arith) (omega arith)

pub returns-then-n-ge1000-clause-digits : goal.returns-then-n-ge1000-clause-digits
returns-then-n-ge1000-clause-digits c = aligned 3 4 c.args.n (omega arith) (omega arith) (omega arith)

pub returns-then-n-ge100-clause-digits : goal.returns-then-n-ge100-clause-digits
returns-then-n-ge100-clause-digits c = aligned 2 5 c.args.n (omega arith) (omega arith) (omega arith)

pub returns-then-n-ge10-clause-digits : goal.returns-then-n-ge10-clause-digits
returns-then-n-ge10-clause-digits c = aligned 1 6 c.args.n (omega arith) (omega arith) (omega arith)

pub returns-else-n-ge10-clause-digits : goal.returns-else-n-ge10-clause-digits
returns-else-n-ge10-clause-digits c = aligned_one c.args.n (omega arith)
