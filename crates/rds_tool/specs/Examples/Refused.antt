-- The refusals of a job, in the order of looking: its settings, its text, its bits, its cuts.
use Rattle.std.specs.{Prelude.◌≡◌, Prelude.List, Prelude.[], Prelude.◌∷◌, Prelude.Err, Prelude.ℕ, Prelude.codes, Prelude.false, Prelude.map, Prelude.refl, Global.Vec}
use Rattle.hex.specs.Hex.{decode_pairs}
use Rattle.rds_code.specs.{declared.error.RdsError.RdsError, declared.error.RdsError.TheVariants.BadCutting, declared.error.RdsError.TheVariants.BadGaps, declared.error.RdsError.TheVariants.BitsPastBytes, declared.error.RdsError.TheVariants.BurstRange, declared.error.RdsError.TheVariants.CrewRange, declared.error.RdsError.TheVariants.GroupText, declared.error.RdsError.TheVariants.HexText, declared.error.RdsError.TheVariants.TooLong}
use Rattle.rds_tool.specs.{Outcome.result_of_job, declared.job.Cuts.TheVariants.At, declared.job.Job.Job, declared.job.Job.TheVariants.Encode, declared.job.Job.TheVariants.List as ListJob, declared.job.Job.TheVariants.Scan, declared.job.Job.TheVariants.Totals, Examples.Words.cut_settings, Examples.Words.default_settings, Examples.Words.hex_bits, Examples.Words.hex_input, Examples.Words.raw_bits, Examples.Words.settings_of}

-- these jobs and bytes are refused so
abbrev pub AreRefused : List (Job × List ℕ × RdsError) → Type 0
AreRefused rows = map (λ row. result_of_job row.0 row.1) rows ≡ map (λ row. Err row.2) rows

-- first all settings are out of their ranges, and the bytes are no hexadecimal text
pub of_reports : AreRefused (
    (ListJob hex_input (settings_of 6 0 0 0 0), codes "0", BurstRange)
    ∷ (Totals hex_input (settings_of 2 3 10 0 0), codes "0", CrewRange)
    ∷ (Totals hex_input (settings_of 2 3 10 4 0), codes "0", BadCutting)
    ∷ (ListJob (hex_bits 68719476737) default_settings, codes "0", HexText)
    ∷ (Totals (raw_bits 68719476737) default_settings, [], TooLong)
    ∷ (ListJob (raw_bits 57) default_settings, codes "1234567", BitsPastBytes)
    ∷ []
    )
unfolding decode_pairs
of_reports = refl

-- a scan has workers, and neither rules nor cuts; gaps are looked at after the bits and before the cuts
pub of_others : AreRefused (
    (Scan hex_input 0, codes "000", CrewRange)
    ∷ (Scan hex_input 257, codes "000", CrewRange)
    ∷ (Scan hex_input 4, codes "000", HexText)
    ∷ (Scan (raw_bits 9) 4, codes "1", BitsPastBytes)
    ∷ (Encode false, codes "123425405244532", GroupText)
    ∷ (Scan (record (raw_bits 8) { gaps = (5, 5) ∷ [] }) 4, codes "1", BadGaps)
    ∷ (Scan (record (raw_bits 9) { gaps = (5, 5) ∷ [] }) 4, codes "1", BitsPastBytes)
    ∷ []
    )
unfolding decode_pairs
of_others = refl

-- places are looked at once the bits are known
pub before_places : (places : Vec ℕ) → AreRefused (
    (ListJob (raw_bits 9) (cut_settings 1 (At places)), codes "1", BitsPastBytes)
    ∷ (ListJob (record (raw_bits 8) { gaps = (5, 5) ∷ [] }) (cut_settings 1 (At places)), codes "1", BadGaps)
    ∷ []
    )
before_places places = refl
