use Rattle.rds_stream.proofs.Names.{ℕ, ◌-◌, List, arith, subst, sym, true, false, length, IsNonDecreasingBy, Signal, AllEndBy, IsFirstAfter, IsSection}
use Rattle.rds_stream.proofs.GapLemmas.{ends_rise, touched_on, clear_before, clear_after}
use Rattle.rds_stream.proofs.recording.Recording.section.Goals as goal

pub first_after-requires : goal.first_after-requires
first_after-requires c =
    let gaps = c.self.inside.gaps.items in
    subst (λ (gs : List (ℕ × ℕ)). IsNonDecreasingBy (λ (gap : ℕ × ℕ). gap.1) gs) (sym c.deref.ensures.value)
    (ends_rise (length c.self.inside.packed) gaps c.self.invariant)

pub returns-in-Some-clause-alike : goal.returns-in-Some-clause-alike
returns-in-Some-clause-alike c =
    let held : Signal = record { bits = c.self.inside.packed; gaps = c.self.inside.gaps.items } in
    let place = c.args.place in
    let to = c.min.result in
    let gap : ℕ × ℕ = (c.in-Some.from, c.in-Some.to) in
    let is = subst (λ (gaps : List (ℕ × ℕ)). IsFirstAfter gaps (place - 25) gap) c.deref.ensures.value c.in-Some.ensures in
    subst (λ (b : Signal). IsSection b place to true) c.self.view_is
    (touched_on held c.self.invariant place c.requires.first gap is c.if-from-place.true to (omega (arith, c.min.ensures)))

pub returns-in-Some-2-clause-alike : goal.returns-in-Some-2-clause-alike
returns-in-Some-2-clause-alike c =
    let held : Signal = record { bits = c.self.inside.packed; gaps = c.self.inside.gaps.items } in
    let place = c.args.place in
    let gap : ℕ × ℕ = (c.in-Some.from, c.in-Some.to) in
    let is = subst (λ (gaps : List (ℕ × ℕ)). IsFirstAfter gaps (place - 25) gap) c.deref.ensures.value c.in-Some.ensures in
    subst (λ (b : Signal). IsSection b place c.in-Some.from false) c.self.view_is (clear_before held c.self.invariant place c.requires.first gap is)

pub returns-in-None-clause-alike : goal.returns-in-None-clause-alike
returns-in-None-clause-alike c =
    let held : Signal = record { bits = c.self.inside.packed; gaps = c.self.inside.gaps.items } in
    let place = c.args.place in
    let to = c.len-len.result in
    let over = subst (λ (gaps : List (ℕ × ℕ)). AllEndBy gaps (length gaps) (place - 25)) c.deref.ensures.value c.in-None.ensures in
    subst (λ (b : Signal). IsSection b place to false) c.self.view_is (clear_after held c.self.invariant place c.requires.first over to)
