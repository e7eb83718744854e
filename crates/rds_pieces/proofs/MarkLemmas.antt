-- Where the next mark of a run is: after the next stretch that gives an item. The marks of a run are those that a walk
-- bit by bit finds.
use Rattle.rds_pieces.proofs.Names.{common_steps, ◌≡◌, ◌≢◌, ℕ, zero, suc, ◌+◌, ◌-◌, List, [], ◌∷◌, ◌++◌, length, map, filter, refl, sym, ap, ap₂, ◌∙◌, arith, append_assoc, length-append, le-ltb, lt-ltb, range_with_len, Signal, Item, State, items_in, RuleNumbers, run, step, items_at, mark_where, mark_at, marks_on, Mark, mark_after_bits, gave_item, marks_of, Step, IsStretch, run-append, run-one}

none_first : {A : Type 0} → (xs ys : List A) → xs ++ ys ≡ [] → xs ≡ []
none_first [] ys e = refl
none_first (x ∷ xs) ys e = cc

none_rest : {A : Type 0} → (xs ys : List A) → xs ++ ys ≡ [] → ys ≡ []
none_rest [] ys e = e
none_rest (x ∷ xs) ys e = cc

module _ (b : Signal) (rules : RuleNumbers) where
  -- bits that give nothing have no mark
  pub marks_on_quiet : (s : State) (a before bits : ℕ) → (run b rules s a bits).1 ≡ [] → marks_on b rules s a before bits ≡ []
  marks_on_quiet s a before zero e = refl
  marks_on_quiet s a before (suc bits) e = grind (arith, common_steps, none_first, none_rest, marks_on_quiet (step b rules a s) (a + 1) (before + length (items_at b rules a s)) bits (none_rest (items_at b rules a s) _ e))

  -- the marks over some bits and then some more
  pub marks_on-append : (s : State) (a c m n : ℕ)
      → marks_on b rules s a c (m + n) ≡ marks_on b rules s a c m ++ marks_on b rules (run b rules s a m).0 (a + m) (c + length (run b rules s a m).1) n
  marks_on-append s a c zero n = grind (arith, common_steps)
  marks_on-append s a c (suc m) n =
      let all : suc m + n ≡ suc (m + n) = omega arith in
      let spot : a + 1 + m ≡ a + suc m = omega arith in
      let given : List Item = items_at b rules a s in
      let after : Mark = mark_at (step b rules a s) (a + 1) (c + length given) in
      let rest : State × List Item = run b rules (step b rules a s) (a + 1) m in
      let len = length-append given rest.1 in
      let count : c + length given + length rest.1 ≡ c + length (given ++ rest.1) = omega (arith, len) in
      rw all
      (ap (λ (ms : List Mark). mark_where given after ++ ms) (marks_on-append (step b rules a s) (a + 1) (c + length given) m n)
      ∙ sym (append_assoc (mark_where given after) (marks_on b rules (step b rules a s) (a + 1) (c + length given) m) _)
      ∙ ap₂ (λ (p k : ℕ). (mark_where given after ++ marks_on b rules (step b rules a s) (a + 1) (c + length given) m) ++ marks_on b rules rest.0 p k n) spot count)

  -- bits that give nothing, then one that does, and more bits
  marks_on-next : (s t : State) (a c m n : ℕ) → run b rules s a m ≡ (t, []) → items_at b rules (a + m) t ≢ []
      → let given : List Item = items_at b rules (a + m) t in
      let next : State = step b rules (a + m) t in
      marks_on b rules s a c (m + suc n) ≡ mark_at next (a + m + 1) (c + length given) ∷ marks_on b rules next (a + m + 1) (c + length given) n
  marks_on-next s t a c m n quiet some = grind (arith, common_steps, marks_on-append, marks_on_quiet)

  -- the same, by other names of the last bit's place, state and items
  marks_on-came : (s t u : State) (a c m n to : ℕ) (given : List Item) → run b rules s a m ≡ (t, []) → a + m + 1 ≡ to → u ≡ step b rules (a + m) t → given ≡ items_at b rules (a + m) t
      → given ≢ [] → marks_on b rules s a c (m + suc n) ≡ mark_at u to (c + length given) ∷ marks_on b rules u to (c + length given) n
  marks_on-came s t u a c m n to given quiet last state items some = grind (arith, common_steps, marks_on-next)

  -- the run over one more bit
  run_more : (s : State) (a m : ℕ) → let before : State × List Item = run b rules s a m in
      run b rules s a (m + 1) ≡ (step b rules (a + m) before.0, before.1 ++ items_at b rules (a + m) before.0)
  run_more s a m = grind (arith, common_steps, run-append, run-one)

  -- after bits that give nothing, a run is that of its last bit
  run-last : (s t : State) (a m : ℕ) → run b rules s a m ≡ (t, []) → run b rules s a (m + 1) ≡ (step b rules (a + m) t, items_at b rules (a + m) t)
  run-last s t a m quiet = grind (arith, common_steps, run_more)

  -- the marks after the first m bits are those of a walk from there
  marks_from : (s : State) (a m n : ℕ) → map (mark_after_bits b rules s a) (filter (gave_item b rules s a) (range_with_len (m + 1) n))
      ≡ marks_on b rules (run b rules s a m).0 (a + m) (length (run b rules s a m).1) n
  marks_from s a m zero = refl
  marks_from s a m (suc n) = grind (arith, common_steps, run_more, length-append, le-ltb, lt-ltb, marks_from s a (m + 1) n)

  -- all marks of a run are those of a walk from its first place
  pub marks_of_by_bits : (s : State) (a bits : ℕ) → marks_of b rules s a bits ≡ mark_at s a 0 ∷ marks_on b rules s a 0 bits
  marks_of_by_bits s a bits =
      let spot : a + 0 ≡ a = omega arith in
      ap (λ (ms : List Mark). mark_at s a 0 ∷ ms) (marks_from s a 0 bits ∙ ap (λ (p : ℕ). marks_on b rules s p 0 bits) spot)

  module _ (s : State) (place to before : ℕ) (reached : Step) (is : IsStretch b rules s place to reached) where
    -- over a stretch that gives items
    pub marks_on_stretch : items_in reached.items ≢ []
        → let count : ℕ = before + length (items_in reached.items) in
        marks_on b rules s place before (to - place) ≡ mark_at reached.state reached.place count ∷ marks_on b rules reached.state reached.place count (to - reached.place)
    marks_on_stretch some =
        let m : ℕ = reached.place - 1 - place in
        let t : State = (run b rules s place m).0 in
        let ahead = is.forward in
        let inside = is.limit in
        let bits : m + 1 ≡ reached.place - place = omega arith in
        let last : place + m + 1 ≡ reached.place = omega arith in
        let rest : m + suc (to - reached.place) ≡ to - place = omega arith in
        let quiet : run b rules s place m ≡ (t, []) = ap (λ (is : List Item). (t, is)) is.quiet in
        let whole = rw bits at (run-last s t place m quiet) in
        let state : reached.state ≡ step b rules (place + m) t = is.state ∙ ap (λ (r : State × List Item). r.0) whole in
        let items : items_in reached.items ≡ items_at b rules (place + m) t = is.items ∙ ap (λ (r : State × List Item). r.1) whole in
        let all = marks_on-came s t reached.state place before m (to - reached.place) reached.place (items_in reached.items) quiet last state items some in
        rw rest at all
