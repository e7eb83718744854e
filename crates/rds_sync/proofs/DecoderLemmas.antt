-- A decoder: the items of the next stretch come before those of the rest.
use Rattle.rds_sync.proofs.Names.{common_steps, ◌≡◌, ◌≢◌, ℕ, ◌+◌, ◌-◌, ◌<◌, List, [], ◌∷◌, ◌++◌, length, get_or, Option, Some, None, sym, ap, ◌∙◌, arith, ⊤, MakesProgress, YieldsFirst, item_count, Signal, Item, State, Locked, Step, DecoderOf, GivesNext, Lock, HasGiven, RuleNumbers, run, IsStretch, items_there as items_in}
use Rattle.rds_sync.proofs.RunLemmas.{run_places}

-- the items left before `place` in state s, after the one that is ready
abbrev pub left_of : Signal → RuleNumbers → Option Item → State → ℕ → ℕ → DecoderOf
left_of b rules ready s place to =
    record { items = items_in (ready ∷ []) ++ (run b rules s place (to - place)).1; end = (run b rules s place (to - place)).0 }

module _ (b : Signal) (rules : RuleNumbers) (s : State) (place to : ℕ) (step : Step) (went : IsStretch b rules s place to step) where
  abbrev rest : State × List Item
  rest = run b rules step.state step.place (to - step.place)

  onwards : run b rules s place (to - place) ≡ (rest.0, items_in step.items ++ rest.1)
  onwards = grind (arith, common_steps, run_places, run)

  nothing_left : items_in step.items ≡ [] → rest.1 ≡ []
  nothing_left none = grind (arith, common_steps, run)

  module _ (old : DecoderOf) (old_is : old ≡ left_of b rules None s place to) (read : Signal) (same : read ≡ b) (second : Option Item) where
    old_items : (first : Option Item) → step.items ≡ first ∷ second ∷ [] → old.items ≡ items_in (first ∷ second ∷ []) ++ rest.1
    old_items first are = grind (arith, common_steps, onwards, items_in)

    end_is : (ready : Option Item) → (left_of read rules ready step.state step.place to).end ≡ old.end
    end_is ready = grind (arith, common_steps, run, onwards)

    left_is : (ready : Option Item) → items_in (ready ∷ []) ++ rest.1 ≡ (left_of read rules ready step.state step.place to).items
    left_is ready = ap (λ (signal : Signal). items_in (ready ∷ []) ++ (run signal rules step.state step.place (to - step.place)).1) (sym same)

    -- the first item is given, and the second is ready
    pub gives-first : (item : Item) → step.items ≡ Some item ∷ second ∷ [] → GivesNext old (Some item) (left_of read rules second step.state step.place to)
    gives-first item are = grind (arith, common_steps, old_items, left_is, end_is, items_in, left_of, old_items (Some item) are, left_is second, end_is second)

    -- there is no first item
    pub gives-second : step.items ≡ None ∷ second ∷ [] → GivesNext old second (left_of read rules None step.state step.place to)
    gives-second are = (step_is second are (old_items None are) (left_is None), end_is None) where
      step_is : (second : Option Item) → step.items ≡ None ∷ second ∷ [] → old.items ≡ items_in (None ∷ second ∷ []) ++ rest.1
          → items_in (None ∷ []) ++ rest.1 ≡ (left_of read rules None step.state step.place to).items
          → YieldsFirst (λ (d : DecoderOf). d.items) old second (left_of read rules None step.state step.place to)
      step_is None slots from_old to_new =
          let none = nothing_left (ap (λ (slots : List (Option Item)). items_in slots) slots) in
          (from_old ∙ none, sym to_new ∙ none)
      step_is (Some next) slots from_old to_new = from_old ∙ ap (λ (is : List Item). next ∷ is) to_new

-- a decoder goes on
pub goes-on : (old : DecoderOf) (given : Option Item) (new : DecoderOf) → GivesNext old given new
    → MakesProgress (λ _. ⊤) (item_count (λ (d : DecoderOf). d.items)) old given new
goes-on old given new gives = grind (arith, common_steps)

-- the two places for items of a step
pub two_slots : (slots : List (Option Item)) (a b : Option Item) → length slots ≡ 2 → slots ≡ get_or slots 0 a ∷ get_or slots 1 b ∷ []
two_slots slots a b two = grind (arith, common_steps)

pub none_ready : (ready : Option Item) → ((item : Item) → ready ≢ Some item) → ready ≡ None
none_ready ready other = grind (arith, common_steps)

-- whole groups that were given come before the rest
module _ (b read : Signal) (rules : RuleNumbers) (s : State) (place to : ℕ) (lock now : Lock) (before after : List Item) (given : HasGiven b rules lock to before now after)
    (same : read ≡ b) (s_is : s ≡ Locked lock) (place_is : place + 25 ≡ lock.due) (far : lock.due < now.due) (old : DecoderOf) (old_is : old ≡ left_of b rules None s place to) where
  abbrev behind : State × List Item
  behind = run b rules (Locked now) (now.due - 25) (to - (now.due - 25))

  abbrev passed : State × List Item
  passed = run b rules (Locked lock) (lock.due - 25) (now.due - lock.due)

  over : run b rules s place (to - place) ≡ (behind.0, passed.1 ++ behind.1)
  over = grind (arith, common_steps, run, passed, run_places, run_places b rules s place (now.due - 25) to (omega (arith, place_is, far)) (given.limit far))

  pub groups-items : before ++ old.items ≡ after ++ (left_of read rules None (Locked now) (now.due - 25) to).items
  groups-items = grind (arith, common_steps, over, run)

  pub groups-end : (left_of read rules None (Locked now) (now.due - 25) to).end ≡ old.end
  groups-end = grind (arith, common_steps, run, over)
