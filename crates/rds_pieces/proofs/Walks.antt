-- Two runs of one range side by side, of which the one at the lesser place hops: they meet at the least
-- place, and read few windows.

use Rattle.rds_pieces.proofs.Names.{common_steps, ◌≡◌, ℕ, ◌+◌, ◌-◌, ◌*◌, ◌<◌, ◌≤◌, ◌^◌, ◌⊎◌, Option, sym, subst, arith, inl, inr, mul-le, Signal, State, Searching, IsHop, RuleNumbers, IsLawful, IsBetweenGroups, IsInRange, TallyOf, tally_at, gone_on, IsFirst, IsStep, Meet, RunLaws, MeetFirstAt, IsMeeting, seam_reads}
use Rattle.rds_pieces.proofs.{Apart.IsApart, Apart.at_bit, Apart.swap, Apart.apart_hop, GoneRuns.gone-again, Paid.IsPaid, Paid.paid_swap, Paid.paid_hop, Paid.paid_most, Paid.paid_less}

-- of two places, which is first
which : (a c : ℕ) → (a < c) ⊎ (c < a) ⊎ (a ≡ c)
which a c = grind (arith, common_steps)

-- if the one is not first the other is
pub then_first : (a : ℕ) (x : State) (c : ℕ) (y : State) → ¬ ((a ≡ c) × (x ≡ y) × IsBetweenGroups x) → ¬ IsFirst a x c → IsFirst c y a
then_first a x c y other not_first = grind (arith, common_steps, which)

pub first_behind : (a : ℕ) (x : State) (c : ℕ) → IsFirst a x c → x ≡ Searching → a < c
first_behind a x c it e = grind (arith, common_steps)

-- the run from s and its guess, side by side, after `reads` reads
pub record IsBeside (b : Signal) (rules : RuleNumbers) (s : State) (from to : ℕ) (own guess : TallyOf) (reads : ℕ) : Type 0 where
  pub own_is : own ≡ gone_on (tally_at b rules from s) own.place
  pub guess_is : guess ≡ gone_on (tally_at b rules from Searching) guess.place
  pub apart : IsApart b rules s Searching from to own.place own.state guess.place guess.state
  pub paid : IsPaid rules from own.place own.state guess.place guess.state reads

-- a run that went on by a hop
gone : RunLaws → {b : Signal} {rules : RuleNumbers} {from near to cost : ℕ} (u : State) {old new : TallyOf} → from ≤ old.place → old ≡ gone_on (tally_at b rules from u) old.place → new ≡ gone_on old new.place
    → IsHop b rules old.state old.place near to new.place new.state cost → new ≡ gone_on (tally_at b rules from u) new.place
gone laws {b} {rules} {from} u {old} {new} low is on hop = grind (arith, common_steps, gone-again)

module _ (laws : RunLaws) {b : Signal} {rules : RuleNumbers} (range : IsInRange rules) {s : State} {from to : ℕ} (one : IsLawful rules from s) where
  own_hops : {own guess new : TallyOf} {reads cost more : ℕ} → IsBeside b rules s from to own guess reads → ¬ Meet own guess → IsFirst own.place own.state guess.place
      → new ≡ gone_on own new.place → IsHop b rules own.state own.place guess.place to new.place new.state cost → more ≤ reads + cost → IsBeside b rules s from to new guess more
  own_hops {own} h other first on hop few = record {
    own_is = gone laws s h.apart.inside.0 h.own_is on hop;
    guess_is = h.guess_is;
    apart = apart_hop laws b rules s Searching from to range.loss.0 one h.apart other first hop;
    paid = paid_less few (paid_hop own.state h.paid hop);
  }

  guess_hops : {own guess new : TallyOf} {reads cost more : ℕ} → IsBeside b rules s from to own guess reads → ¬ Meet own guess → ¬ IsFirst own.place own.state guess.place
      → new ≡ gone_on guess new.place → IsHop b rules guess.state guess.place own.place to new.place new.state cost → more ≤ reads + cost → IsBeside b rules s from to own new more
  guess_hops {own} {guess} h other not_first on hop few = record {
    own_is = h.own_is;
    guess_is = gone laws Searching h.apart.inside.2 h.guess_is on hop;
    apart = swap (apart_hop laws b rules Searching s from to range.loss.0 tt (swap h.apart) (λ m. other (sym m.0, sym m.1, subst (λ (u : State). IsBetweenGroups u) m.1 m.2))
        (then_first own.place own.state guess.place guess.state other not_first) hop);
    paid = paid_less few (paid_swap (paid_hop guess.state (paid_swap h.paid) hop));
  }

  pub hops_first : {own guess own2 guess2 : TallyOf} {reads cost more : ℕ} → IsBeside b rules s from to own guess reads → ¬ Meet own guess
      → IsStep b rules to own guess own2 guess2 cost → more ≤ reads + cost → IsBeside b rules s from to own2 guess2 more
  hops_first h other (inl (first, hopped, stays)) few = rw stays (own_hops h other first hopped.gone hopped.hop few)
  hops_first h other (inr (not_first, hopped, stays)) few = rw stays (guess_hops h other not_first hopped.gone hopped.hop few)

  module _ {own guess : TallyOf} {reads : ℕ} (h : IsBeside b rules s from to own guess reads) where
    -- the state of a run is lawful
    lawful_at : (u : State) (a : ℕ) (x : State) → IsLawful rules from u → from ≤ a → x ≡ at_bit b rules u from a → IsLawful rules a x
    lawful_at u a x lawful low is = subst (λ (v : State). IsLawful rules a v) (sym is) (laws.lawful_runs b rules range.loss.0 u from a low lawful)

    few_by : (d : ℕ) → own.place ≤ from + d → guess.place ≤ from + d → reads ≤ (rules.reach + 2) * (d + 1)
    few_by d near_one near_two = grind (arith, common_steps, paid_most, lawful_at)

    -- they read no more than a seam may, nor more than the range may
    pub few_in_range : reads ≤ (rules.reach + 2) * (to - from + 1)
    few_in_range = let i = h.apart.inside in few_by (to - from) (omega (arith, i)) (omega (arith, i))

    pub few_to_meeting : (met : Option ℕ) → IsMeeting b rules s Searching from to met → reads ≤ seam_reads rules from to met
    few_to_meeting met it = grind (arith, common_steps, few_in_range, few_by)

    -- so there is room for the count
    pub room_for : (now base : ℕ) → reads ≡ now - base → to ≤ 2 ^ 36 → base ≤ 2 ^ 62 → now ≤ 2 ^ 62 + 2 ^ 60
    room_for now base is few low = grind (arith, common_steps, few_in_range, mul-le)

    -- if they meet it is the least place
    pub met_least : Meet own guess → MeetFirstAt b rules s Searching from to own.place
    met_least m = grind (arith, common_steps, at_bit)

-- a step goes on
pub step_moves : {b : Signal} {rules : RuleNumbers} {to : ℕ} {own guess own2 guess2 : TallyOf} {reads : ℕ} → IsStep b rules to own guess own2 guess2 reads
    → own.place ≤ to → guess.place ≤ to → (to - own2.place) + (to - guess2.place) < (to - own.place) + (to - guess.place)
step_moves it one two = grind (arith, common_steps)
