-- The rules that settings give, or their refusal: this project's rule. `transcribe` decodes by them, by way of `Plans`.
use Rattle.std.specs.Prelude.{◌||◌, Err, Ok, Result, if◌then◌else◌, nat_lt}
use Rattle.rds_sync.specs.{Ranges.farthest_reach, Ranges.longest_burst, Ranges.most_blocks, Rules.RuleNumbers, declared.loss.Loss.Loss, declared.loss.Loss.TheVariants.Run, declared.loss.Loss.TheVariants.Share}
use Rattle.rds_tool.specs.{Input.and_then, declared.job.Settings.Settings}
use Rattle.rds_code.specs.declared.error.RdsError.{RdsError, TheVariants.BurstRange, TheVariants.LossRange, TheVariants.ReachRange, TheVariants.ShareRange}

-- the rule of loss, if it is in its range
abbrev pub loss_of : Loss → Result Loss RdsError
loss_of (Run n) = if nat_lt n 1 || nat_lt most_blocks n then Err LossRange else Ok (Run n)
loss_of (Share bad of) = if nat_lt bad 1 || nat_lt of bad || nat_lt most_blocks of then Err ShareRange else Ok (Share bad of)

-- the rules of these settings, or the first that is out of its range
abbrev pub rules_of : Settings → Result RuleNumbers RdsError
rules_of settings =
    if nat_lt longest_burst settings.burst then Err BurstRange
    else if nat_lt settings.reach 1 || nat_lt farthest_reach settings.reach then Err ReachRange
    else and_then (loss_of settings.loss) (λ loss. Ok (record { burst = settings.burst; reach = settings.reach; loss = loss }))
