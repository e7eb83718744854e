-- The jobs that the callers ask for: of the bytes of a recording, all their bits.
use Rattle.std.specs.Prelude.{◌≡◌, ℕ, ◌*◌, List, [], None, Ok, Option, false, length, true}
use Rattle.rds_stream.specs.Recording.{Signal, bits_of, ungapped}
use Rattle.rds_sync.specs.Rules.{RuleNumbers}
use Rattle.rds_tool.specs.{Cuts.cuts_any, Laws.stream_input, Plans.PlanOf, Plans.plan_of, Rules.rules_of, declared.job.Input.Input, declared.job.Job.Job, declared.job.Settings.Settings}
use Rattle.rds_tool.specs.declared.job.Job.TheVariants as job

-- all bits of the bytes, without gaps
abbrev pub all_bits : List ℕ → Signal
all_bits bytes = ungapped (bits_of bytes (8 * length bytes))

-- the input is the bytes themselves and all their bits, without gaps
abbrev pub plain : Input
plain = record { hex = false; bits = None; gaps = [] }

-- it asks for the listing by these rules, whoever works, and however the recording is cut
abbrev pub IsListBy : Job → RuleNumbers → Type 0
IsListBy asked rules = (settings : Settings) × (asked ≡ job.List plain settings) × (rules_of settings ≡ Ok rules)

-- it asks for the listing of a stream, of the bits claimed and with these gaps. The plan has these rules and pieces of one length
pub record IsListOfStream (asked : Job) (rules : RuleNumbers) (bits : Option ℕ) (gaps : List (ℕ × ℕ)) : Type 0 where
  pub settings : Settings
  pub plan : PlanOf
  pub list : asked ≡ job.List (stream_input bits gaps) settings
  pub planned : plan_of settings ≡ Ok plan
  pub by : plan.rules ≡ rules
  pub even : cuts_any plan.cuts ≡ true
