use Rattle.rds_uses.proofs.Names.{Correction, IfSome, IsCorrection, List, None, Option, Some, SureSymbolsStay, Wanted, slice_index, top, ℕ, ◌<◌, ◌≡◌}
use Rattle.rds_uses.proofs.softly.nothing_is_flipped.Goals as goal

none_flipped : SureSymbolsStay → (w x : ℕ) (wanted : Wanted) (confidences : List ℕ) (margin : ℕ) (found : Option Correction)
    → ((k : ℕ) → k < 27 → top < slice_index confidences k) → IsCorrection w x wanted confidences margin found → IfSome found (λ f. f.flips ≡ 0)
none_flipped law w x wanted confidences margin None sure h = tt
none_flipped law w x wanted confidences margin (Some found) sure h = law w x wanted confidences margin found.offset found.flips sure h

pub returns : goal.returns
returns c =
    none_flipped c.sure_symbols_stay.ensures c.args.w c.args.number c.args.wanted c.args.confidences.now c.args.margin c.nearest.result c.requires.sure
    c.nearest.ensures
