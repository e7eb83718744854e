use Rattle.rds_live.proofs.Names.{common_steps, arith}
use Rattle.rds_live.proofs.Sewing.{end_kept, guess_is}
use Rattle.rds_live.proofs.stream_decoder.StreamDecoder.guess_after.Goals as goal

pub returns : goal.returns
returns = grind (arith, common_steps, end_kept, guess_is)
