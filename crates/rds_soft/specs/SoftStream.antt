-- A stream of symbols, heard as it comes: its complete items, each read again from the symbols so far. Each call of `SoftStream` cites it,
-- and so does `follow_soft` of rds_tool. This project's rules.
use Rattle.std.specs.Prelude.{ℕ, ◌-◌, List, [], ◌∷◌, Option, None, Some, length, map}
use Rattle.rds_stream.specs.Recording.{Signal}
use Rattle.rds_sync.specs.{declared.item.Item.Item, declared.state.State.State, declared.state.State.TheVariants.Searching, Report.report_items, Rules.RuleNumbers, Step.run}
use Rattle.rds_soft.specs.{declared.soft_item.SoftGroup.SoftGroup, declared.soft_item.SoftItem.SoftItem, declared.soft_item.SoftItem.TheVariants.Group, ReadAgain.item_again, ReadAgain.symbols_of, Symbols.hard_bits}

-- the terms by which a stream is decoded: its rules, the gaps that were told of it, by places of its bits, and the margin
pub record SoftTerms : Type 0 where
  pub rules : RuleNumbers
  pub gaps : List (ℕ × ℕ)
  pub margin : ℕ

-- a stream: its terms, and the symbols that were heard, as bytes
pub record SoftHeard : Type 0 where
  pub terms : SoftTerms
  pub symbols : List ℕ

-- the bits between these symbols, one fewer than they are; a gap after them has no effect
abbrev pub signal_of : SoftTerms → List ℕ → Signal
signal_of terms symbols = record { bits = hard_bits (symbols_of symbols); gaps = terms.gaps }

-- the run over all of these bits
abbrev pub run_of : SoftTerms → List ℕ → State × List Item
run_of terms symbols = run (signal_of terms symbols) terms.rules Searching 0 (length symbols - 1)

-- items of a stream, read again from these symbols of it
abbrev pub read_again : SoftTerms → List ℕ → List Item → List SoftItem
read_again terms symbols items = map (item_again (signal_of terms symbols) (symbols_of symbols) terms.margin) items

-- the items that are complete once these symbols were heard. By the clause `items` of `SoftStream::take`, no later symbol changes them
abbrev pub complete : SoftTerms → List ℕ → List SoftItem
complete terms symbols = read_again terms symbols (run_of terms symbols).1

-- the report of a stream of these symbols
abbrev pub report_of : SoftTerms → List ℕ → List SoftItem
report_of terms symbols = read_again terms symbols (report_items (signal_of terms symbols) terms.rules)

-- the group in progress, if there is one
abbrev pub group_item : Option SoftGroup → List SoftItem
group_item None = []
group_item (Some group) = Group group ∷ []
