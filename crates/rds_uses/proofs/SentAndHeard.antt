-- Short lemmas for the callers of `sent`.
use Rattle.rds_uses.proofs.Names.{A, AreWords, List, Offset, RuleNumbers, Signal, Some, [], ap, arith, bits_sent, heard, length, offset_at, offset_heard, offset_of, rem, report_items, report_sent, totals_of, totals_sent, ungapped, word, ℕ, ◌<◌, ◌∙◌, ◌∷◌, ◌≡◌, ◌≤◌}
use Rattle.rds_code.proofs.CorrectionLemmas.{word_offset}
use Rattle.rds_stream.proofs.WindowLists.{off_late}
use Rattle.rds_sync.specs.{Ranges.IsInRange, Sent.EncodedGroupsAreListed}

-- a block that is heard has its offset
pub offset-heard : (b : Signal) (i w : ℕ) (o : Offset) → 25 ≤ i → heard b i ≡ Some w → rem w ≡ word o → offset_at b i ≡ Some o
offset-heard b i w o far is own = off_late b i far ∙ ap offset_heard is ∙ ap offset_of own ∙ word_offset o

-- groups that were encoded are reported
pub sent-report : EncodedGroupsAreListed → (rules : RuleNumbers) (groups : List (List ℕ)) → 0 < length groups → IsInRange rules → AreWords groups
    → (report_items (ungapped (bits_sent groups)) rules ≡ report_sent groups)
    × (totals_of (report_items (ungapped (bits_sent groups)) rules) ≡ totals_sent (length groups))
sent-report law rules [] some range small = absurd (omega (arith, some))
sent-report law rules (words ∷ groups) some range small = law rules words groups range.loss.0 range.some_reach range.burst small
