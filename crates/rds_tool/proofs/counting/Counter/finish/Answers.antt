use Rattle.rds_tool.proofs.Names.{◌≡◌, ◌+◌, ◌-◌, ◌*◌, ◌^◌, ◌≤◌, ◌++◌, ◌∷◌, ◌∙◌, Bool, List, Ok, [], ap, arith, false, inr, length, subst, sym, take, true, ℕ, AreGaps, Signal, bits_of, report_items, totals_of, claimed, first_bits, CounterOf, claimed_by, whole, HasHeard, LiveOf, report_at, IsMemoryOrErrOf, BadGaps, RdsError, IfErr, Err, inl}
use Rattle.rds_tool.proofs.{CountedBytes.bad_gaps, CountedBytes.ends_alike, CountedBytes.near_end, CountedBytes.recorded, Passing.passes, counting.Counter.finish.Given.Over, counting.Counter.finish.Goals.After-place}
use Rattle.rds_tool.proofs.counting.Counter.finish.Goals as goal

-- the facts once the number of bits is known
module _ (g : Over) (c : After-place g) where
  abbrev n : ℕ
  n = claimed_by c.self.inside.bits c.self.inside.count

  short : n ≤ 2 ^ 36
  short = omega (arith, c.if-bits-gt-MOST_BITS.false, c.claimed_bits-bits.ensures)

  enough : n ≤ 8 * c.self.inside.count
  enough = omega (arith, c.if-self-div_ceil.false, c.div_ceil.ensures, c.claimed_bits-bits.ensures)

  heard : c.into_decoder-live.result ≡ c.self.inside.live
  heard = c.into_decoder-live.ensures

  place_is : c.place.result ≡ c.self.inside.live.place
  place_is = c.place.ensures.value ∙ ap (λ (l : LiveOf). l.place) heard

  sum : c.self.inside.live.place + (c.claimed_bits-bits.result - c.place.result) ≡ n
  sum =
      let s = c.self.inside in
      let near = near_end s.bits s.live s.count s.last s.bytes.bytes c.self.invariant short enough in
      omega (arith, near.0, place_is, c.claimed_bits-bits.ensures)

  few : c.claimed_bits-bits.result - c.place.result ≤ 7
  few =
      let s = c.self.inside in
      let near = near_end s.bits s.live s.count s.last s.bytes.bytes c.self.invariant short enough in
      omega (arith, near.1, place_is, c.claimed_bits-bits.ensures)

pub end_after-requires-clause-held : goal.end_after-requires-clause-held
end_after-requires-clause-held g c = omega (arith, few g (goal.at.end_after-requires-clause-held g c).After-place)

pub end_after-requires-clause-few : goal.end_after-requires-clause-few
end_after-requires-clause-few g c = omega (arith, few g (goal.at.end_after-requires-clause-few g c).After-place)

pub end_after-requires-clause-limit : goal.end_after-requires-clause-limit
end_after-requires-clause-limit g c =
    let d = (goal.at.end_after-requires-clause-limit g c).After-place in omega (arith, ap (λ (l : LiveOf). l.place) (heard g d), sum g d, short g d)

pub returns-in_err-ended-clause-refused : goal.returns-in_err-ended-clause-refused
returns-in_err-ended-clause-refused g c =
    let s = c.self.inside in
    let d = (goal.at.returns-in_err-ended-clause-refused g c).After-place in
    let ended = c.in_err-ended.ensures in
    let none : c.in_err-ended.field-0.0 ≡ BadGaps → AreGaps (n g d) s.live.terms.gaps → ⊥ =
    λ bad are. ended.bad_gaps (ap (λ (e : RdsError). Err e) bad) (subst (λ (l : LiveOf). AreGaps (l.place + (c.claimed_bits-bits.result - c.place.result)) l.terms.gaps) (sym (heard g d))
    (subst (λ (m : ℕ). AreGaps m s.live.terms.gaps) (sym (sum g d)) are)) in
    let told : IsMemoryOrErrOf (first_bits (claimed s.bits s.bytes.bytes) s.live.terms.gaps s.bytes.bytes) c.in_err-ended.field-0.0 =
    elim ended.kinds [
      | inl memory ↦ inl memory
      | inr bad ↦
          inr (bad_gaps s.bits s.live s.count s.last s.bytes.bytes c.self.invariant (short g d) (enough g d) s.live.terms.gaps (none bad) ∙ ap (λ (e : RdsError). Err e) (sym bad))
    ] in
    subst (λ (m : CounterOf). IfErr c.from_residual.result (IsMemoryOrErrOf (first_bits (claimed m.bits m.bytes) m.terms.gaps m.bytes))) c.self.view_is
    (passes _ _ _ c.from_residual.ensures told)

pub returns-clause-totals : goal.returns-clause-totals
returns-clause-totals g c =
    let s = c.self.inside in
    let d = (goal.at.returns-clause-totals g c).After-place in
    let terms = s.live.terms in
    let front = take (whole s.bits) s.bytes.bytes in
    let left = c.claimed_bits-bits.result - c.place.result in
    let are : AreGaps (n g d) terms.gaps =
    subst (λ (m : ℕ). AreGaps m terms.gaps) (sum g d) (subst (λ (l : LiveOf). AreGaps (l.place + left) l.terms.gaps) (heard g d) c.in_ok-ended.ensures.gaps) in
    let long : 8 * length front + left ≡ n g d = omega (arith, sum g d, ap (λ (l : LiveOf). l.place) c.self.invariant.heard) in
    subst (λ (m : CounterOf). (x : Signal) × (first_bits (claimed m.bits m.bytes) m.terms.gaps m.bytes ≡ Ok x) × (c.in_ok-ended.ended.1.totals ≡ totals_of (report_items x m.terms.rules))) c.self.view_is (
      record { bits = bits_of s.bytes.bytes (n g d); gaps = terms.gaps },
      recorded s.bits s.live s.count s.last s.bytes.bytes c.self.invariant (short g d) (enough g d) terms.gaps are,
      c.in_ok-ended.ensures.totals front (subst (λ (l : LiveOf). HasHeard l front) (sym (heard g d)) c.self.invariant.heard)
          ∙ ap (λ (l : LiveOf). totals_of (report_at l.terms (front ++ s.last ∷ []) (8 * length front + left))) (heard g d)
          ∙ ap (λ (m : ℕ). totals_of (report_items (record { bits = bits_of (front ++ s.last ∷ []) m; gaps = terms.gaps }) terms.rules)) long
          ∙ ap (λ (bs : List ℕ). totals_of (report_items (record { bits = bs; gaps = terms.gaps }) terms.rules))
          (ends_alike s.bits s.live s.count s.last s.bytes.bytes c.self.invariant (short g d) (enough g d)),
    )
