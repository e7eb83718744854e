-- The items of a run lie where the run goes over.
use Rattle.rds_live.proofs.Names.{common_steps, ◌≡◌, ◌^◌, length_of, subst, sym, ℕ, zero, suc, ◌+◌, ◌-◌, ◌*◌, ◌<◌, ◌≤◌, List, [], ◌∷◌, Bool, true, false, eqb, arith, All-append, All-cons, All-nil, All, Signal, Lock, State, Searching, Locked, Item, Group, RuleNumbers, group, items_of_end, run, step, items_at, completed_group, IsLawful, place_of, is_due_below, items-searching, items-acquiring, items-waiting, items-keeping, items-losing, GroupRecord}

module _ (b : Signal) (rules : RuleNumbers) (to : ℕ) where
  abbrev Early : Item → Type 0
  Early item = place_of item < to

  group-early : (f x i : ℕ) → i < to → Early (Group (group b rules f x i))
  unfolding group
  group-early f x i h = let e : i - 26 * (x - f) - 25 < to = omega arith in e

  after-early : (f x i : ℕ) → i < to → All Early (completed_group b rules f x i)
  after-early f x i h = at_case (eqb x 4) where
    at_case : (t : Bool) → All Early (elim t as (λ _. List Item) [ true ↦ Group (group b rules f x i) ∷ [] | false ↦ [] ])
    at_case true = All-cons Early (Group (group b rules f x i)) [] (group-early f x i h) (All-nil Early)
    at_case false = All-nil Early

  search-early : (i : ℕ) → i < to → All Early (items_at b rules i Searching)
  search-early i h = grind (arith, common_steps, items-searching, items-acquiring, after-early)

  due-early : (lock : Lock) → lock.due < to → All Early (items_at b rules lock.due (Locked lock))
  due-early lock h = grind (arith, common_steps, items-losing, group-early, items-keeping, after-early)

  items-early : (i : ℕ) (s : State) → i < to → All Early (items_at b rules i s)
  items-early i s h = grind (arith, common_steps, search-early, due-early, items-waiting)

  pub run-early : (s : State) (a n : ℕ) → a + n ≤ to → All Early (run b rules s a n).1
  run-early s a zero h = All-nil Early
  run-early s a (suc n) h =
      All-append Early (items_at b rules a s) (run b rules (step b rules a s) (a + 1) n).1 (items-early a s (omega arith)) (run-early (step b rules a s) (a + 1) n (omega arith))

-- the group in progress at the end is before it
pub end-early : (b : Signal) (rules : RuleNumbers) (to : ℕ) (s : State) → is_due_below to s → All (λ (item : Item). place_of item < to) (items_of_end b rules s)
end-early b rules to s h = grind (arith, common_steps, group-early)

pub due-soon : (rules : RuleNumbers) (place to : ℕ) (s : State) → IsLawful rules place s → place + 26 ≤ to → is_due_below to s
due-soon rules place to Searching lawful h = tt
due-soon rules place to (Locked lock) lawful h = omega (arith, lawful.soon)

-- a group in progress at the end of a recording begins soon after its last place
pub group-soon : (b : Signal) (rules : RuleNumbers) (s : State) (g : GroupRecord) → IsLawful rules (length_of b) s → length_of b ≤ 2 ^ 36 → Group g ∷ [] ≡ items_of_end b rules s → g.place < 2 ^ 36 + 26
group-soon b rules s g lawful short found =
    let early = end-early b rules (2 ^ 36 + 26) s (due-soon rules (length_of b) (2 ^ 36 + 26) s lawful (omega (arith, short))) in
    let all = subst (λ (items : List Item). All (λ (item : Item). place_of item < 2 ^ 36 + 26) items) (sym found) early in
    omega (arith, all zero (Group g) (omega arith))
