use Rattle.rds_stream.proofs.Names.{common_steps, ◌≡◌, ◌+◌, ℕ, Option, Some, None, IsSome, refl, sym, ◌∙◌, subst, arith, Offset, offset_of, rem, Signal, offset_at, window, WindowsLeft, GivesFirst}
use Rattle.rds_stream.proofs.{ValidPlaceLemmas.never_some, ValidPlaceLemmas.none_ahead, ValidPlaceLemmas.none_below, ValidPlaceLemmas.join_none, ValidPlaceLemmas.one_valid, ValidPlaceLemmas.places_behind, ValidPlaceLemmas.valid_late, WindowLists.off_stored}
use Rattle.rds_stream.proofs.valid_windows.ValidWindowsIterator.next.Goals as goal

pub returns-then-places-eq0-clause-steps : goal.returns-then-places-eq0-clause-steps
returns-then-places-eq0-clause-steps c =
    let b = c.self.inside.recording.now in
    let end = c.self.inside.end in
    let found = c.next_valid-places in
    let places = found.result in
    let ahead = none_ahead b places.next places.ahead places.word found.ensures.places c.if-places-eq0.true in
    let ended = found.ensures.ended c.if-places-eq0.true in
    let none = join_none b c.self.inside.places.next places.next places.ahead found.ensures.over ahead in
    subst (λ (old : WindowsLeft). GivesFirst old None (record { signal = b; next = end; end = end })) c.self.view_is
    (λ i low high. none i low (omega (arith, ended, high)), refl)

pub stored_offset-requires-clause-first : goal.stored_offset-requires-clause-first
stored_offset-requires-clause-first c = grind (arith, common_steps, valid_late, one_valid)

-- a valid place has an offset as it is stored
has_stored : (b : Signal) (place : ℕ) (found : Option Offset) → IsSome (offset_at b place) → found ≡ offset_of (rem (window b.bits place)) → found ≡ None → ⊥
has_stored b place found valid is none = never_some b place (off_stored b place valid ∙ sym is ∙ none) valid

pub invariant_of-self-in_err-offset : goal.invariant_of-self-in_err-offset
invariant_of-self-in_err-offset c = grind (arith, common_steps, one_valid, has_stored)

pub returns-in_err-offset-clause-steps : goal.returns-in_err-offset-clause-steps
returns-in_err-offset-clause-steps c =
    let b = c.self.inside.recording.now in
    let places = c.next_valid-places.result in
    let bit = c.lowest-bit.result in
    let valid = (one_valid b places.next places.ahead places.word bit c.next_valid-places.ensures.places c.lowest-bit.ensures.set).1 in
    absurd (has_stored b (places.next + bit) c.stored_offset.result valid c.stored_offset.ensures c.in_err-offset.was)

pub invariant_of-self-2 : goal.invariant_of-self-2
invariant_of-self-2 c = grind (arith, common_steps, places_behind)

pub returns-clause-steps : goal.returns-clause-steps
returns-clause-steps c =
    let b = c.self.inside.recording.now in
    let end = c.self.inside.end in
    let found = c.next_valid-places in
    let places = found.result in
    let bit = c.lowest-bit.result in
    let is = found.ensures.places in
    let place = places.next + bit in
    let valid = one_valid b places.next places.ahead places.word bit is c.lowest-bit.ensures.set in
    let below = none_below b places.next places.ahead places.word bit is (omega (arith, valid.0)) c.lowest-bit.ensures.below in
    subst (λ (old : WindowsLeft). GivesFirst old (Some (place, c.in_ok-offset.offset)) (record { signal = b; next = place + 1; end = end })) c.self.view_is (
      omega (arith, found.ensures.forward),
      omega (arith, found.ensures.forward, valid.0),
      join_none b c.self.inside.places.next places.next place found.ensures.over below,
      off_stored b place valid.1 ∙ sym c.stored_offset.ensures ∙ c.in_ok-offset.was,
      refl,
    )
