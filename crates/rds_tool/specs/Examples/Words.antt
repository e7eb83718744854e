-- Short words for the examples.
use Rattle.std.specs.Prelude.{ℕ, List, [], ◌∷◌, ◌++◌, None, Some, false, true}
use Rattle.rds_sync.specs.declared.loss.Loss.TheVariants.{Run, Share}
use Rattle.rds_tool.specs.declared.job.{Cuts.Cuts, Cuts.TheVariants.Even, Input.Input, Settings.Settings}

-- the text, and then a line feed
abbrev pub line : List ℕ → List ℕ
line text = text ++ 10 ∷ []

-- hexadecimal text, and bytes as they are, both with all their bits
abbrev pub hex_input : Input
hex_input = record { hex = true; bits = None; gaps = [] }

abbrev pub raw_input : Input
raw_input = record { hex = false; bits = None; gaps = [] }

-- the first `bits` bits of hexadecimal text, and of bytes as they are
abbrev pub hex_bits : ℕ → Input
hex_bits bits = record { hex = true; bits = Some bits; gaps = [] }

abbrev pub raw_bits : ℕ → Input
raw_bits bits = record { hex = false; bits = Some bits; gaps = [] }

-- the rules, the workers and the most pieces
abbrev pub settings_of : ℕ → ℕ → ℕ → ℕ → ℕ → Settings
settings_of burst reach loss workers pieces =
    record { burst = burst; reach = reach; loss = Run loss; workers = workers; cuts = Even pieces }

-- the same, if a lock is lost by a share of the last blocks
abbrev pub share_settings : ℕ → ℕ → ℕ → ℕ → Settings
share_settings burst bad of workers =
    record { burst = burst; reach = 3; loss = Share bad of; workers = workers; cuts = Even 16 }

abbrev pub default_settings : Settings
default_settings = settings_of 2 3 10 4 16

-- the default rules, with this number of workers and these cuts
abbrev pub cut_settings : ℕ → Cuts → Settings
cut_settings workers cuts = record { burst = 2; reach = 3; loss = Run 10; workers = workers; cuts = cuts }
