-- Two runs meet by the end of a sound range inside their range: there both are in the state that all runs come into.
use Rattle.rds_pieces.proofs.Names.{common_steps, ◌≡◌, ℕ, ◌+◌, ◌-◌, ◌*◌, ◌≤◌, List, Option, Some, refl, sym, ap, ◌∙◌, subst, arith, Signal, State, Locked, Item, RuleNumbers, IsLawful, IsBetweenGroups, IsLossRule, run, lock_of, MeetAt, IsMeeting, RunLaws, IsSoonMet, MeetSoon, sound_bits, SoundRangesHaveFours, RunsConverge}

module _ (b : Signal) (rules : RuleNumbers) (one other : State) (from to : ℕ) where
  -- the least place where they meet is no later than any
  met_by : (met : Option ℕ) → IsMeeting b rules one other from to met → (q limit : ℕ) → MeetAt b rules one other from to q → q ≤ limit
      → (place : ℕ) × (met ≡ Some place) × (place ≤ limit)
  met_by met it q limit here low = grind (arith, common_steps)

  pub soon_met : RunLaws → SoundRangesHaveFours → RunsConverge → IsLossRule rules.loss → 1 ≤ rules.reach
      → IsLawful rules from one → IsLawful rules from other → (met : Option ℕ) → IsMeeting b rules one other from to met
      → IsSoonMet b rules from to met
  soon_met laws fours converge loss reach one_lawful other_lawful met meeting j s p c sound low high =
      let four = fours b rules j s p c sound in
      let last : ℕ = four.0 in
      let inside = four.1.inside in
      let first = sound.sequence.first in
      let q : ℕ = p + 26 * last + 1 in
      let before : q ≤ s + sound_bits rules.loss j = omega (arith, inside) in
      let behind : s ≤ q = omega (arith, first) in
      let ends : (t : State) → IsLawful rules from t → (run b rules t from (q - from)).0 ≡ Locked (lock_of (p + 26 * last + 26) 1 0 1) =
      λ t lawful.
      ap (λ (end : State × List Item). end.0) (laws.join b rules t from s q low behind)
      ∙ converge b rules loss reach s q (run b rules t from (s - from)).0 (laws.lawful_runs b rules loss t from s low lawful) j p c last sound four.1 refl in
      let here : MeetAt b rules one other from to q = record {
        inside = (omega (arith, low, behind), omega (arith, before, high));
        same = ends one one_lawful ∙ sym (ends other other_lawful);
        between = subst (λ (t : State). IsBetweenGroups t) (sym (ends one one_lawful)) refl;
      } in
      met_by met meeting q (s + sound_bits rules.loss j) here before

  -- and there is a first place where they do
  pub meet_soon : (met : Option ℕ) → IsMeeting b rules one other from to met → IsSoonMet b rules from to met → MeetSoon b rules one other from to
  meet_soon met meeting soon j s p c sound low high =
      let at = soon j s p c sound low high in
      (at.0, subst (λ (o : Option ℕ). IsMeeting b rules one other from to o) at.1 meeting, at.2)
