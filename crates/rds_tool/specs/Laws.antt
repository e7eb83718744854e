-- Laws of jobs, over only the definitions: the listing of groups that were encoded, and which texts are that
-- of a list, or a part of it. The functions of `laws` promise them. This project's rules.
use Rattle.std.specs.Prelude.{◌≡◌, ◌≤◌, ◌*◌, ◌^◌, ◌++◌, ◌∷◌, ℕ, Bool, IfOk, List, [], None, Ok, Option, Result, false, length, true}
use Rattle.rds_stream.specs.Recording.{length_of}
use Rattle.rds_sync.specs.{Sent.group_sent, Sent.items_sent, Sent.totals_sent, declared.item.Item.TheVariants.Acquired, declared.item.Item.TheVariants.Group}
use Rattle.rds_tool.specs.{Cuts.cuts_bits, Following.listed, GroupText.lines_of, GroupText.words_of, Input.and_then, Input.recording_of, Listing.report_text, Outcome.result_of_job, Plans.PlanOf, Plans.plan_of, declared.job.Input.Input, declared.job.Settings.Settings}
use Rattle.rds_code.specs.declared.error.RdsError.{RdsError}
use Rattle.rds_tool.specs.declared.job.Job.TheVariants as job

-- ---- groups that are encoded and then listed

-- the words of the groups that lines spell, four words for each line that is not empty
abbrev pub groups_of_lines : List (List ℕ) → Result (List (List ℕ)) RdsError
groups_of_lines [] = Ok []
groups_of_lines ([] ∷ lines) = groups_of_lines lines
groups_of_lines ((digit ∷ digits) ∷ lines) =
    and_then (words_of (digit ∷ digits)) (λ words. and_then (groups_of_lines lines) (λ groups. Ok (words ∷ groups)))

-- the words of the groups that a text spells, or the refusal of its first faulty line
abbrev pub groups_in : List ℕ → Result (List (List ℕ)) RdsError
groups_in text = groups_of_lines (lines_of text)

-- all bits of the bytes, or of those that hexadecimal text spells, without gaps
abbrev pub whole_input : Bool → Input
whole_input hex = record { hex = hex; bits = None; gaps = [] }

-- a text of lines, encoded as bytes or as digits, and listed again
abbrev pub encoded_and_listed : Bool → Settings → List ℕ → Result (List ℕ) RdsError
encoded_and_listed hex settings lines = and_then (result_of_job (job.Encode hex) lines) (result_of_job (job.List (whole_input hex) settings))

-- the listing of groups that were sent from bit 0 on: block 2 of the first one acquires synchronism, so the first group has no block 1;
-- each other group has its four words, at its place
abbrev pub sent_listing : List ℕ → List (List ℕ) → List ℕ
sent_listing words groups =
    report_text (Acquired 51 2 ∷ Group (group_sent 2 26 words []) ∷ items_sent 104 groups) (totals_sent (length (words ∷ groups)))

-- the listing of groups that were encoded is the listing of these groups, by all rules, whoever works, and however the bits are cut
abbrev pub EncodedGroupsAreListed : Type 0
EncodedGroupsAreListed = (hex : Bool) (settings : Settings) (lines words : List ℕ) (groups : List (List ℕ)) (listing : List ℕ)
    → groups_in lines ≡ Ok (words ∷ groups) → encoded_and_listed hex settings lines ≡ Ok listing
    → listing ≡ sent_listing words groups

-- nothing is refused if the settings are in their ranges, the groups are not too long for a recording, and the cuts fit them
abbrev pub EncodedGroupsAreTaken : Type 0
EncodedGroupsAreTaken = (hex : Bool) (settings : Settings) (plan : PlanOf) (lines : List ℕ) (groups : List (List ℕ))
    → plan_of settings ≡ Ok plan → groups_in lines ≡ Ok groups → 104 * length groups ≤ 2 ^ 36
    → cuts_bits plan.cuts (104 * length groups) ≡ true
    → (listing : List ℕ) × (encoded_and_listed hex settings lines ≡ Ok listing)

-- ---- lists, streams and totals

-- the bytes themselves, as many of their bits as are claimed, with these gaps
abbrev pub stream_input : Option ℕ → List (ℕ × ℕ) → Input
stream_input bits gaps = record { hex = false; bits = bits; gaps = gaps }

-- following a stream has the outcome of a list of its bytes, by any plan whose cuts fit them: its text, or
-- its refusal
abbrev pub StreamsAreListed : Type 0
StreamsAreListed = (settings : Settings) (plan : PlanOf) (bits : Option ℕ) (gaps : List (ℕ × ℕ)) (held : List ℕ)
    → plan_of settings ≡ Ok plan
    → IfOk (recording_of (stream_input bits gaps) held) (λ recording.
    cuts_bits plan.cuts (length_of recording) ≡ true)
    → listed (record { rules = plan.rules; gaps = gaps }) bits held ≡ result_of_job (job.List (stream_input bits gaps) settings) held

-- a list ends with the totals: its other rows come before them, and it is refused if they are
abbrev pub ListsEndWithTotals : Type 0
ListsEndWithTotals = (input : Input) (settings : Settings) (held : List ℕ)
    → (rows : List ℕ) × (result_of_job (job.List input settings) held
    ≡ and_then (result_of_job (job.Totals input settings) held) (λ totals. Ok (rows ++ totals)))
