-- From the words that were given to their request: this project's rule. `given_words` and `asked_for` answer it.
use Rattle.std.specs.Prelude.{◌∷◌, ◌++◌, ◌≡◌, ◌⊎◌, [], ℕ, Err, List, Ok, Result, Vec, codes, length, map, string_bytes}
use Rattle.std.specs.{Vec.Iter.into_iter_items, Vec.Iter.into_iter_len, IoError.error_kind, declared.io.Error.Error, declared.io.ErrorKind.TheVariants.InvalidData, declared.vec.IntoIter.IntoIter, Result.result_ok}
use Rattle.rds_tool.specs.{CommandLine.HasBadGaps, CommandLine.MayAnswer, CommandLine.SaysBadGaps, CommandLine.asked_by, CommandLine.entries_of, CommandLine.faults_of, declared.fault.CliFault.CliFault, declared.fault.FaultKind.FaultKind, declared.fault.FaultKind.TheVariants.Memory, declared.fault.FaultKind.TheVariants.Words, declared.job.Asked.Asked}

-- The words are those of the iterator that `env::args` gave, or the reason fits its error. Which words that iterator has no clause says, nor
-- that its length is the number of its items.
abbrev pub IsGiven : {S A E : Type 0} → Result (IntoIter S A) Error → Result (Vec S E) FaultKind → Type 0
IsGiven (Ok args) (Ok words) = into_iter_len args ≡ length (into_iter_items args) → words.items ≡ into_iter_items args
IsGiven (Ok args) (Err why) = why ≡ Memory
IsGiven (Err error) (Ok words) = ⊥
IsGiven (Err error) (Err why) = (why ≡ Memory) ⊎ ((why ≡ Words) × (error_kind error ≡ InvalidData))

-- the texts of the words, if there are any
abbrev pub texts_of : {S A E : Type 0} → (S → List ℕ) → Result (Vec S A) E → Result (List (List ℕ)) E
texts_of text (Ok words) = Ok (map text words.items)
texts_of text (Err why) = Err why

-- memory was refused, and there is no text
abbrev pub SaysNoMemory : CliFault → Type 0
SaysNoMemory fault = (fault.kind ≡ Memory) × (string_bytes fault.text ≡ [])

-- the text if a word is not valid UTF-8
abbrev pub bad_words_text : List ℕ
bad_words_text = codes "error: an argument is not valid UTF-8" ++ 10 ∷ []

-- the fault if there are no words for this reason; lack of memory may be the fault instead
abbrev pub IsNoWords : FaultKind → CliFault → Type 0
IsNoWords Words fault = SaysNoMemory fault ⊎ ((fault.kind ≡ Words) × (string_bytes fault.text ≡ bad_words_text))
IsNoWords other fault = SaysNoMemory fault

-- a fault of these words: its kind is allowed, and its text is the one of this project if `--gaps` cannot be parsed
pub record IsFaultOf (words : List (List ℕ)) (fault : CliFault) : Type 0 where
  pub kind : MayAnswer (faults_of words) (result_ok (asked_by (entries_of words))) fault.kind
  pub gaps : faults_of words ≡ [] → HasBadGaps (entries_of words) → SaysBadGaps fault
  pub memory : fault.kind ≡ Memory → string_bytes fault.text ≡ []

-- the request is that of the words, or the fault is theirs, or that of the missing words
abbrev pub IsAskedFor : Result (List (List ℕ)) FaultKind → Result Asked CliFault → Type 0
IsAskedFor (Ok words) (Ok asked) = (asked_by (entries_of words) ≡ Ok asked) × (faults_of words ≡ [])
IsAskedFor (Ok words) (Err fault) = IsFaultOf words fault
IsAskedFor (Err why) (Ok asked) = ⊥
IsAskedFor (Err why) (Err fault) = IsNoWords why fault
