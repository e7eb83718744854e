use Rattle.rds_stream.proofs.Names.{ℕ, Option, IsSome, true≢false, ◌+◌, ◌∙◌, sym, subst, arith, Offset, offset_at, TellsValidPlaces}
use Rattle.rds_stream.proofs.{WindowLists.off_clear, ValidPlaceLemmas.with_valid, ValidPlaceLemmas.with_invalid, ValidPlaceLemmas.none_is, valid_places.one_by_one.Goals.then-is_some, valid_places.one_by_one.Goals.else-is_some}
use Rattle.rds_stream.proofs.valid_places.one_by_one.Goals as goal

pub loop-place-preserved : goal.loop-place-preserved
loop-place-preserved c =
    let b = c.args.recording.now in
    let from = c.args.from in
    let p = c.loop-place.place in
    let now = c.loop-place.invariant in
    let offset = off_clear b p (omega (arith, c.requires.first)) (c.requires.clear p (omega arith) (omega arith)) ∙ sym c.stored_offset.ensures in
    elim c.if-is_some.branch [
      | then-is_some w ↦ subst (λ (word : ℕ). TellsValidPlaces b from (p + 1) word) (sym w.places-is) (with_valid b from p c.loop-place.places now (omega arith)
          (subst (λ (o : Option Offset). IsSome o) (sym offset) (sym c.is_some.ensures ∙ w.if-is_some.true)))
      | else-is_some w ↦ subst (λ (word : ℕ). TellsValidPlaces b from (p + 1) word) (sym w.places-is) (with_invalid b from p c.loop-place.places now (omega arith)
          (none_is (offset_at b p) (λ some. true≢false (sym (subst (λ (o : Option Offset). IsSome o) offset some) ∙ (sym c.is_some.ensures ∙ w.if-is_some.false)))))
    ]
