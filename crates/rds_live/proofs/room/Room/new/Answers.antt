use Rattle.rds_live.proofs.Names.{◌≡◌, ◌∙◌, ℕ, List, [], ap, arith, length, subst, sym, false≢true, length-map-range_with_len, AreGaps, Signal, length_of, packed_bit, filled_up}
use Rattle.rds_live.proofs.{GapParts.gaps-filled-up, GapParts.length-filled-up, SpareGaps.spare-behind, room.Room.new.Goals.After-fill_up}
use Rattle.rds_live.proofs.room.Room.new.Goals as goal

-- no gaps are some that a recording may have
no-gaps : AreGaps 7920 []
no-gaps = record { each = λ k d h. absurd (omega arith); apart = λ k d h. absurd (omega arith) }

-- the recording has spare gaps only
spare-are : (c : After-fill_up) → c.fill_up.new.gaps.items ≡ filled_up [] c.min-slots.result
spare-are c = c.fill_up.ensures.gaps ∙ ap (λ (gs : List (ℕ × ℕ)). filled_up gs c.min-slots.result) c.in_ok-spare.ensures.items

as-many : (c : After-fill_up) → length c.fill_up.new.gaps.items ≡ c.min-slots.result
as-many c = ap length (spare-are c) ∙ length-filled-up [] c.min-slots.result (omega arith)

pub unreachable-requires : goal.unreachable-requires
unreachable-requires c =
    absurd (false≢true (c.in-Err.ensures.taken.1 (
      omega arith,
      omega (arith, c.in_ok-silence.ensures, c.in_ok-silence.silence.ok.0),
      subst (λ (gaps : List (ℕ × ℕ)). AreGaps 15840 gaps) (sym (spare-are (goal.at.unreachable-requires c).After-fill_up))
          (gaps-filled-up [] c.min-slots.result no-gaps (omega arith) (omega (arith, c.min-slots.ensures))),
    )))

pub invariant_of-result : goal.invariant_of-result
invariant_of-result c =
    let at = (goal.at.invariant_of-result c).After-fill_up in
    let gaps = ap (λ (b : Signal). b.gaps) c.in-Ok.ensures.held in (
      omega (arith, ap length c.in_ok-bytes.ensures.items),
      omega (arith, c.in_ok-bytes.ensures.capacity),
      ap (λ (b : Signal). length_of b) c.in-Ok.ensures.held ∙ length-map-range_with_len (packed_bit c.in_ok-silence.silence.items) 0 15840,
      ap length gaps ∙ as-many at,
      omega (arith, c.min-slots.ensures),
      omega (arith, c.in_ok-gaps.ensures.capacity),
      omega arith,
      spare-behind c.in-Ok.recording.gaps [] c.min-slots.result (omega arith) (gaps ∙ spare-are at),
    )

pub returns-clause-bytes : goal.returns-clause-bytes
returns-clause-bytes c = c.in_ok-bytes.ensures.items

pub returns-clause-slots : goal.returns-clause-slots
returns-clause-slots c = ap (λ (b : Signal). length b.gaps) c.in-Ok.ensures.held ∙ as-many (goal.at.returns-clause-slots c).After-fill_up ∙ c.min-slots.ensures
