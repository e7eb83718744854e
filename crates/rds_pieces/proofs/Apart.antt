-- No place before that of the run that is ahead is a meeting.
use Rattle.rds_pieces.proofs.Names.{common_steps, ◌≡◌, ℕ, zero, suc, ◌+◌, ◌-◌, ◌<◌, ◌≤◌, ◌⊎◌, List, sym, ap, ◌∙◌, subst, arith, inl, inr, cases_lt, Signal, Lock, State, Searching, Locked, Item, RuleNumbers, IsLawful, IsLawfulLock, IsBetweenGroups, IsLossRule, run, step, IsHop, MeetAt, RunLaws, IsFirst}
use Rattle.rds_pieces.proofs.HopFacts.{entered, run-last}

-- the state of a run from s before bit q
abbrev pub at_bit : Signal → RuleNumbers → State → ℕ → ℕ → State
at_bit b rules s from q = (run b rules s from (q - from)).0

-- a run from s at place a in state x and one from t at place c in state y
pub record IsApart (b : Signal) (rules : RuleNumbers) (s t : State) (from to a : ℕ) (x : State) (c : ℕ) (y : State) : Type 0 where
  pub inside : (from ≤ a) × (a ≤ to) × (from ≤ c) × (c ≤ to)
  pub own : x ≡ at_bit b rules s from a
  pub other : y ≡ at_bit b rules t from c
  pub apart : (q : ℕ) → (q < a) ⊎ (q < c) → ¬ MeetAt b rules s t from to q

pub swap : {b : Signal} {rules : RuleNumbers} {s t x y : State} {from to a c : ℕ} → IsApart b rules s t from to a x c y → IsApart b rules t s from to c y a x
swap {b} {rules} {s} {t} {from = from} {to = to} h = grind (arith, common_steps)

module _ (laws : RunLaws) (b : Signal) (rules : RuleNumbers) where
  at_next : (s : State) (from q : ℕ) → from ≤ q → at_bit b rules s from (q + 1) ≡ step b rules q (at_bit b rules s from q)
  at_next s from q h =
      let bits : q + 1 - from ≡ q - from + 1 = omega arith in
      let place : from + (q - from) ≡ q = omega arith in
      ap (λ (n : ℕ). (run b rules s from n).0) bits ∙ run-last b rules s from (q - from) ∙ ap (λ (p : ℕ). step b rules p (at_bit b rules s from q)) place

  -- a run in two parts
  pub at_on : (s : State) (from a k : ℕ) → from ≤ a → at_bit b rules s from (a + k) ≡ (run b rules (at_bit b rules s from a) a k).0
  at_on s from a k h =
      let bits : a + k - a ≡ k = omega arith in
      ap (λ (r : State × List Item). r.0) (rw bits at (laws.join b rules s from a (a + k) h (omega arith)))

  module _ (s t : State) (from to : ℕ) where
    -- a lock that waits at both runs was there a bit before
    lock_before : (u : State) (q : ℕ) (lock : Lock) → from ≤ q → lock.due < q + 26 → at_bit b rules u from (q + 1) ≡ Locked lock → at_bit b rules u from q ≡ Locked lock
    lock_before u q lock h soon e = grind (arith, common_steps, entered, at_next)

    -- while a lock hops there is no meeting, if there was none before the place of the other run, nor at both places
    none_on : (a c next : ℕ) (lock : Lock) → from ≤ a → a ≤ c → at_bit b rules s from a ≡ Locked lock → lock.due ≤ a + 25
        → ((n : ℕ) → a + n < next → IsBetweenGroups (run b rules (Locked lock) a n).0 → (run b rules (Locked lock) a n).0 ≡ Locked lock)
        → ((q : ℕ) → q < c → ¬ MeetAt b rules s t from to q) → (a ≡ c → ¬ MeetAt b rules s t from to a)
        → (k : ℕ) → a + k < next → ¬ MeetAt b rules s t from to (a + k)
    none_on a c next lock low behind is soon quiet before here zero h m = grind (arith, common_steps)
    none_on a c next lock low behind is soon quiet before here (suc k) h m =
        let next_is : a + suc k ≡ a + k + 1 = omega arith in
        let on : at_bit b rules s from (a + suc k) ≡ (run b rules (Locked lock) a (suc k)).0 =
        at_on s from a (suc k) low ∙ ap (λ (x : State). (run b rules x a (suc k)).0) is in
        let between = subst (λ (x : State). IsBetweenGroups x) on m.between in
        let own : at_bit b rules s from (a + suc k) ≡ Locked lock = on ∙ quiet (suc k) h between in
        let other : at_bit b rules t from (a + suc k) ≡ Locked lock = sym m.same ∙ own in
        let own_before = lock_before s (a + k) lock (omega (arith, low)) (omega (arith, soon)) (subst (λ (p : ℕ). at_bit b rules s from p ≡ Locked lock) next_is own) in
        let other_before = lock_before t (a + k) lock (omega (arith, low)) (omega (arith, soon)) (subst (λ (p : ℕ). at_bit b rules t from p ≡ Locked lock) next_is other) in
        let inside = m.inside in
        let number : IsBetweenGroups (Locked lock) = subst (λ (x : State). IsBetweenGroups x) own m.between in
        none_on a c next lock low behind is soon quiet before here k (omega (arith, h))
        (record {
          inside = (omega (arith, low), omega (arith, inside));
          same = own_before ∙ sym other_before;
          between = subst (λ (x : State). IsBetweenGroups x) (sym own_before) number;
        })

    -- after a hop of the run that is first
    pub apart_hop : IsLossRule rules.loss → IsLawful rules from s → {a c next reads : ℕ} {x y after : State} → IsApart b rules s t from to a x c y
        → ¬ ((a ≡ c) × (x ≡ y) × IsBetweenGroups x) → IsFirst a x c → IsHop b rules x a c to next after reads → IsApart b rules s t from to next after c y
    apart_hop some lawful {a} {c} {next} {reads} {x} {y} {after} h other first hop = record {
      inside = (let m = hop.moved in let i = h.inside in omega (arith, m, i), hop.moved.1, h.inside.2, h.inside.3);
      own = hop.state_is ∙ ap (λ (u : State). (run b rules u a (next - a)).0) h.own ∙ on;
      other = h.other;
      apart = λ q behind. elim behind [
        | inr before ↦ h.apart q (inr before)
        | inl before ↦ elim (cases_lt q a) [
          | inl less ↦ h.apart q (inl less)
          | inr more ↦ later x h.own hop first other q more before
        ]
      ];
    } where
      on : (run b rules (at_bit b rules s from a) a (next - a)).0 ≡ at_bit b rules s from next
      on =
          let m = hop.moved in
          let e : a + (next - a) ≡ next = omega (arith, m) in
          sym (at_on s from a (next - a) h.inside.0) ∙ ap (λ (p : ℕ). at_bit b rules s from p) e

      lawful_here : (lock : Lock) → Locked lock ≡ at_bit b rules s from a → IsLawfulLock rules a lock
      lawful_here lock is = subst (λ (u : State). IsLawful rules a u) (sym is) (laws.lawful_runs b rules some s from a h.inside.0 lawful)

      later : (x : State) → x ≡ at_bit b rules s from a → IsHop b rules x a c to next after reads → IsFirst a x c → ¬ ((a ≡ c) × (x ≡ y) × IsBetweenGroups x)
          → (q : ℕ) → a ≤ q → q < next → ¬ MeetAt b rules s t from to q
      later Searching is hop first other q more before m = let near = hop.paid.0 in h.apart q (inr (omega (arith, near, before))) m
      later (Locked lock) is hop first other q more before m =
          let behind : a ≤ c = elim first [ inl less ↦ omega (arith, less) | inr same ↦ omega (arith, same.0) ] in
          let e : a + (q - a) ≡ q = omega (arith, more) in
          let soon = (lawful_here lock is).soon in
          none_on a c next lock h.inside.0 behind (sym is) soon.1 hop.quiet
          (λ p less. h.apart p (inr less))
          (λ same m0. other (
            same,
            is ∙ m0.same ∙ ap (λ (p : ℕ). at_bit b rules t from p) same ∙ sym h.other,
            subst (λ (u : State). IsBetweenGroups u) (sym is) m0.between,
          ))
          (q - a) (omega (arith, e, before)) (subst (λ (p : ℕ). MeetAt b rules s t from to p) (sym e) m)
