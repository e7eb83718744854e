-- Words of command lines: the command, the text of each option's entry, and the faults that `clap` finds in
-- them.
use Rattle.std.specs.{Prelude.◌≡◌, Prelude.List, Prelude.None, Prelude.Option, Prelude.Some, Prelude.[], Prelude.◌∷◌, Prelude.codes, Prelude.map, Prelude.refl, Option.option_map}
use Rattle.clap.specs.{Takes.flags_pass, Takes.walk_passes, Faults.defaults_fault, Faults.flags_fault, Faults.walk_fault, Walk.bundle_met, Walk.walked, Words.Row, Words.Text, Words.first_of, Words.one_of, declared.error.kind.ErrorKind.ErrorKind}
use Rattle.clap.specs.declared.error.kind.ErrorKind.TheVariants as kind
use Rattle.rds_tool.specs.CommandLine.{entries_of, faults_of}

-- the entries of the options, in the order of the help
abbrev pub texts : List Row → List (Option Text)
texts rows = map (λ name. one_of name rows)
    (codes "hex" ∷ codes "bits" ∷ codes "burst" ∷ codes "reach" ∷ codes "loss" ∷ codes "share" ∷ codes "of"
    ∷ codes "pieces" ∷ codes "workers" ∷ codes "progress" ∷ [])

-- the command and these
abbrev pub asked_by : List Text → Option (Text × List (Option Text))
asked_by words = elim (entries_of words) [ None ↦ None | Some entries ↦ Some (entries.0, texts entries.1) ]

-- ---- options and their defaults

pub scan : asked_by (codes "rds" ∷ codes "scan" ∷ [])
    ≡ Some (codes "scan", Some (codes "false") ∷ None ∷ None ∷ None ∷ None ∷ None ∷ None ∷ None ∷ Some (codes "4") ∷ Some (codes "false") ∷ [])
unfolding walked
scan = refl

pub scan_of_bits : asked_by (codes "rds" ∷ codes "scan" ∷ codes "--bits" ∷ codes "104" ∷ codes "--hex" ∷ [])
    ≡ Some (codes "scan", Some (codes "true") ∷ Some (codes "104") ∷ None ∷ None ∷ None ∷ None ∷ None ∷ None ∷ Some (codes "4") ∷ Some (codes "false") ∷ [])
unfolding walked
scan_of_bits = refl

pub list : asked_by (codes "rds" ∷ codes "list" ∷ [])
    ≡ Some (
      codes "list",
      Some (codes "false") ∷ None ∷ Some (codes "2") ∷ Some (codes "3") ∷ Some (codes "10")
          ∷ None ∷ Some (codes "64") ∷ Some (codes "16") ∷ Some (codes "4") ∷ Some (codes "false") ∷ [],
    )
unfolding walked
list = refl

-- a stream has no digits and no pieces
pub follow : asked_by
    (codes "rds" ∷ codes "follow" ∷ codes "--of" ∷ codes "10" ∷ codes "--share=9" ∷ codes "--bits=803" ∷ [])
    ≡ Some (
      codes "follow",
      None ∷ Some (codes "803") ∷ Some (codes "2") ∷ Some (codes "3") ∷ Some (codes "10")
          ∷ Some (codes "9") ∷ Some (codes "10") ∷ None ∷ Some (codes "1") ∷ None ∷ [],
    )
unfolding walked
follow = refl

-- an option of each kind
abbrev pub each_option : List Text
each_option =
    codes "rds" ∷ codes "totals" ∷ codes "--workers" ∷ codes "7" ∷ codes "--pieces=6" ∷ codes "--loss" ∷ codes "5"
    ∷ codes "--reach=4"
    ∷ codes "--burst" ∷ codes "1" ∷ codes "--bits=0" ∷ codes "--progress" ∷ codes "--hex" ∷ []

pub totals : asked_by each_option
    ≡ Some (
      codes "totals",
      Some (codes "true") ∷ Some (codes "0") ∷ Some (codes "1") ∷ Some (codes "4")
          ∷ Some (codes "5") ∷ None ∷ Some (codes "64") ∷ Some (codes "6") ∷ Some (codes "7") ∷ Some (codes "true") ∷ [],
    )
unfolding walked
totals = refl

-- gaps are taken as they are written
pub gaps : option_map (λ entries. first_of (codes "gaps") entries.1)
    (entries_of (codes "rds" ∷ codes "list" ∷ codes "--gaps" ∷ codes "5" ∷ []))
    ≡ Some (Some (codes "5"))
unfolding walked
gaps = refl

pub encode : asked_by (codes "rds" ∷ codes "encode" ∷ codes "--hex" ∷ [])
    ≡ Some (codes "encode", Some (codes "true") ∷ None ∷ None ∷ None ∷ None ∷ None ∷ None ∷ None ∷ None ∷ None ∷ [])
unfolding walked
encode = refl

-- ---- faults

pub no_fault : faults_of each_option ≡ []
unfolding walked bundle_met flags_pass walk_passes flags_fault walk_fault defaults_fault
no_fault = refl

-- these words after the name of the program have just these faults
abbrev pub HaveFaults : List (List Text × List ErrorKind) → Type 0
HaveFaults rows = map (λ row. faults_of (codes "rds" ∷ row.0)) rows ≡ map (λ row. row.1) rows

-- help and the version, of which a command has none of its own
pub texts_asked_for : HaveFaults (
    (codes "list" ∷ codes "--help" ∷ [], kind.DisplayHelp ∷ [])
    ∷ (codes "--version" ∷ [], kind.DisplayVersion ∷ [])
    ∷ (codes "scan" ∷ codes "--version" ∷ [], kind.UnknownArgument ∷ [])
    ∷ []
    )
unfolding walked bundle_met flags_pass walk_passes flags_fault walk_fault defaults_fault
texts_asked_for = refl

-- a command there must be, and each has options of its own
pub words_wanted : HaveFaults (
    ([], kind.MissingSubcommand ∷ [])
    ∷ (codes "scan" ∷ codes "--burst" ∷ codes "2" ∷ [], kind.UnknownArgument ∷ [])
    ∷ (codes "follow" ∷ codes "--pieces=2" ∷ [], kind.UnknownArgument ∷ [])
    ∷ (codes "scan" ∷ codes "--gaps=" ∷ [], [])
    ∷ (codes "encode" ∷ codes "--gaps=1-2" ∷ [], kind.UnknownArgument ∷ [])
    ∷ []
    )
unfolding walked bundle_met flags_pass walk_passes flags_fault walk_fault defaults_fault
words_wanted = refl

-- 2^40 bits are taken, and one more is not; 2^32 is past every other number
pub numbers_taken : HaveFaults (
    (codes "scan" ∷ codes "--bits" ∷ codes "1099511627776" ∷ [], [])
    ∷ (codes "scan" ∷ codes "--bits" ∷ codes "1099511627777" ∷ [], kind.ValueValidation ∷ [])
    ∷ (codes "list" ∷ codes "--loss" ∷ codes "4294967295" ∷ [], [])
    ∷ (codes "list" ∷ codes "--loss" ∷ codes "4294967296" ∷ [], kind.ValueValidation ∷ [])
    ∷ []
    )
unfolding walked bundle_met flags_pass walk_passes flags_fault walk_fault defaults_fault
numbers_taken = refl
