use Rattle.rds_live.proofs.Names.{common_steps, ◌≡◌, ◌≤◌, ◌*◌, ◌^◌, ◌++◌, ◌∙◌, ℕ, List, ap, ap₂, arith, drop, length, length-drop, subst, sym, length-append, length-map-range_with_len, AreGaps, Signal, bits_of, length_of, gaps_within, signal_of, IsPartHeard, AreSpareFrom, filled_up, slots_of}
use Rattle.rds_live.proofs.{GapParts.few-of-part, GapParts.gaps-of-part, GapParts.gaps-filled-up, GapParts.length-filled-up, Rooms.heard-filled, SpareGaps.filled-on, SpareGaps.spare-behind, room.Room.listen.Goals.After-deref-2}
use Rattle.rds_live.proofs.room.Room.listen.Goals as goal

-- it is as long as before
as-long : (bytes old : List ℕ) (gaps : List (ℕ × ℕ)) (is : Signal) → is ≡ record { bits = bits_of bytes (8 * length bytes) ++ drop (8 * length bytes) old; gaps = gaps }
    → length bytes ≤ 990 → length old ≡ 15840 → length_of is ≡ 15840
as-long bytes old gaps is filled few long = grind (arith, common_steps, length-append, length-map-range_with_len, length-drop)

-- the gaps that are found, those that are put in the place of the first ones, and those that the recording has
module _ (c : After-deref-2) where
  abbrev slots : ℕ
  slots = c.self.inside.slots

  abbrev old : List (ℕ × ℕ)
  old = c.self.inside.recording.gaps

  abbrev near : List (ℕ × ℕ)
  near = gaps_within c.args.gaps.now c.args.before 7920

  abbrev put : List (ℕ × ℕ)
  put = c.deref-2.result.now

  -- they fit into the slots
  fits : length near ≤ slots
  fits = omega (arith, few-of-part (2 ^ 36) c.args.before 7920 c.args.gaps.now c.requires.are, c.requires.room, ap slots_of c.self.view_is, c.self.invariant.3)

  put-are : put ≡ filled_up near c.self.inside.used
  put-are = c.deref-2.ensures.value ∙ c.fill_up.ensures.gaps ∙ ap (λ (gs : List (ℕ × ℕ)). filled_up gs c.self.inside.used) c.fill_gaps.ensures.gaps

  near-fit : length near ≤ length old
  near-fit = omega (arith, fits, c.self.invariant.3)

  used-fit : c.self.inside.used ≤ length old
  used-fit = omega (arith, c.self.invariant.3, c.self.invariant.6)

  fewer : length put ≤ length old
  fewer = grind (arith, common_steps, put-are, length-append, length-map-range_with_len, near-fit, used-fit)

  -- of the recording they are these and spare ones
  filled : put ++ drop (length put) old ≡ filled_up near slots
  filled =
      ap (λ (gs : List (ℕ × ℕ)). gs ++ drop (length gs) old) put-are ∙ filled-on old near c.self.inside.used used-fit near-fit c.self.invariant.7 ∙ ap (filled_up near) c.self.invariant.3

  module _ (now : List (ℕ × ℕ)) (is : now ≡ put ++ drop (length put) old) where
    as-many : length now ≡ slots
    as-many = ap length (is ∙ filled) ∙ length-filled-up near slots fits

    spare-then : AreSpareFrom (length near) now
    spare-then = spare-behind now near slots fits (is ∙ filled)

pub refill-requires-clause-as_many : goal.refill-requires-clause-as_many
refill-requires-clause-as_many c = fewer (goal.at.refill-requires-clause-as_many c).After-deref-2

pub refill-requires-clause-gaps : goal.refill-requires-clause-gaps
refill-requires-clause-gaps c =
    let c = (goal.at.refill-requires-clause-gaps c).After-deref-2 in
    subst (λ (n : ℕ). AreGaps n (put c ++ drop (length (put c)) (old c))) (sym c.self.invariant.2)
    (subst (λ (gs : List (ℕ × ℕ)). AreGaps 15840 gs) (sym (filled c))
    (gaps-filled-up (near c) (slots c) (gaps-of-part (2 ^ 36) c.args.before 7920 c.args.gaps.now c.requires.are) (fits c) c.self.invariant.4))

pub invariant_of-self : goal.invariant_of-self
invariant_of-self c =
    let at = (goal.at.invariant_of-self c).After-deref-2 in
    let inv = c.self.invariant in
    let now_are = ap (λ (b : Signal). b.gaps) c.refill.ensures in
    let long = as-long c.deref.result.now c.self.inside.recording.bits _ c.refill.new.self c.refill.ensures (omega (arith, inv.0, ap length c.deref.ensures.value)) inv.2 in
    let count : length (near at) ≡ c.len-used.result = omega (arith, c.fill_gaps.new.found.ok.0, c.len-used.ensures, ap length c.fill_gaps.ensures.gaps) in
    let used : c.len-used.result ≤ c.self.inside.slots = omega (arith, count, fits at) in
    let spare = subst (λ (k : ℕ). AreSpareFrom k c.refill.new.self.gaps) count (spare-then at c.refill.new.self.gaps now_are) in
    (inv.0, inv.1, long, as-many at c.refill.new.self.gaps now_are, inv.4, omega (arith, inv.5, c.fill_up.ensures.room, c.fill_gaps.ensures.room), used, spare)

pub returns-clause-slots : goal.returns-clause-slots
returns-clause-slots c =
    as-many (goal.at.returns-clause-slots c).After-deref-2 c.refill.new.self.gaps (ap (λ (b : Signal). b.gaps) c.refill.ensures) ∙ sym c.self.invariant.3 ∙ ap slots_of c.self.view_is

pub returns-clause-heard : goal.returns-clause-heard
returns-clause-heard c =
    let s = c.self.inside in
    let gaps = c.args.gaps.now in
    let bytes = s.bytes.items in
    let filled_is = c.refill.ensures
    ∙ ap₂ (λ (xs : List ℕ) (gs : List (ℕ × ℕ)). record { bits = bits_of xs (8 * length xs) ++ drop (8 * length xs) s.recording.bits; gaps = gs }) c.deref.ensures.value
    (filled (goal.at.returns-clause-heard c).After-deref-2) in
    subst (λ (b : Signal). IsPartHeard b (signal_of (gaps_within gaps c.args.before (8 * length bytes)) bytes) 0 0) (sym filled_is)
    (heard-filled (2 ^ 36) c.args.before s.slots gaps c.requires.are bytes s.recording.bits c.self.invariant.0)
