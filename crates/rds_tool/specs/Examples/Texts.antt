-- Whole jobs, from the bytes that are read to the text that is written.
use Rattle.std.specs.{Prelude.◌≡◌, Prelude.ℕ, Prelude.List, Prelude.◌++◌, Prelude.Ok, Prelude.codes, Prelude.refl, Prelude.true, Fmt.digits}
use Rattle.hex.specs.Hex.{decode_pairs, encode_with}
use Rattle.rds_code.specs.Remainder.{rem}
use Rattle.rds_stream.specs.Recording.{heard, offset_at, touched, window}
use Rattle.rds_sync.specs.{Acquiring.acquired, Acquiring.has_number, Groups.group}
use Rattle.rds_tool.specs.{Outcome.result_of_job, declared.job.Job.TheVariants.Encode, declared.job.Job.TheVariants.List as ListJob, declared.job.Job.TheVariants.Scan, declared.job.Job.TheVariants.Totals, Examples.Words.default_settings, Examples.Words.hex_bits, Examples.Words.hex_input, Examples.Words.line, Examples.Words.settings_of}

abbrev pub zero_group : List ℕ
zero_group = codes "00003f00001980 0005a00001b4"

pub scan : result_of_job (Scan hex_input 4) zero_group
    ≡ Ok (line (codes "25,A") ++ line (codes "51,B") ++ line (codes "77,C") ++ line (codes "96,B")
    ++ line (codes "103,D"))
unfolding decode_pairs digits heard offset_at rem touched window
scan = refl

-- the first two blocks
abbrev pub totals_rows : List ℕ
totals_rows =
    line (codes "total,valid,1,-,-,-,-,-")
    ++ line (codes "total,burst1,0,-,-,-,-,-")
    ++ line (codes "total,burst2,0,-,-,-,-,-")
    ++ line (codes "total,burst3,0,-,-,-,-,-")
    ++ line (codes "total,burst4,0,-,-,-,-,-")
    ++ line (codes "total,burst5,0,-,-,-,-,-")
    ++ line (codes "total,lost,0,-,-,-,-,-")
    ++ line (codes "total,bits,0,-,-,-,-,-")
    ++ line (codes "total,groups,1,-,-,-,-,-")
    ++ line (codes "total,complete,0,-,-,-,-,-")
    ++ line (codes "total,acquired,1,-,-,-,-,-")
    ++ line (codes "total,losses,0,-,-,-,-,-")

pub list : result_of_job (ListJob (hex_bits 52) default_settings) zero_group
    ≡ Ok (line (codes "acquired,51,2,-,-,-,-,-") ++ line (codes "group,26,0,A,none,B:0000,none,none") ++ totals_rows)
unfolding acquired decode_pairs digits group has_number heard offset_at rem touched window
list = refl

-- neither workers nor pieces show
pub totals : result_of_job (Totals (hex_bits 52) (settings_of 5 8 64 256 1)) zero_group ≡ Ok totals_rows
unfolding acquired decode_pairs digits group has_number heard offset_at rem touched window
totals = refl

pub encode : result_of_job (Encode true) (codes "0000 0000 0000 0000")
    ≡ Ok (line (codes "00003f000019800005a00001b4"))
unfolding decode_pairs encode_with rem
encode = refl
