-- The items of a report come in order: by an induction over the bits of the run.
use Rattle.rds_tool.proofs.Names.{common_steps, ◌≡◌, ℕ, zero, suc, ◌+◌, ◌-◌, ◌*◌, ◌<◌, ◌≤◌, ◌++◌, List, [], ◌∷◌, Bool, true, false, Option, Some, None, length, refl, arith, append_assoc, inl, inr, eq-eqb, eqb-true, ne_eqb, ◌==◌, filter, Signal, length_of, AcquisitionsAreLate, RunsAreReports, StepsAreLawful, NumbersInOrder, IsLawful, IsLawfulLock, IsLossRule, are_too_many, report_items, RuleNumbers, completed_group, history_after_block, items_at, items_of_end, lock_after, run, step, Item, Acquired, Group, LostLock, Lock, State, Locked, Searching, AreInOrder, Next, at_first, bits_of_item, was_read}
use Rattle.rds_sync.specs.{Acquiring.acquired, Groups.group}

abbrev next_of : Bool → ℕ → ℕ → ℕ → Next
next_of in_sync least least_group bits = record { in_sync = in_sync; least = least; least_group = least_group; bits = bits }

-- the numbers of blocks of a group
abbrev AreNumbers : ℕ → ℕ → Type 0
AreNumbers first last = (1 ≤ first) × (first ≤ last) × (last ≤ 4)

module _ (b : Signal) (rules : RuleNumbers) where
  -- the group of blocks first to last, the last of which ends at this place
  abbrev place_of : ℕ → ℕ → ℕ → ℕ
  place_of first last place = place - 26 * (last - first) - 25

  group_place : (first last place : ℕ) → (group b rules first last place).place ≡ place_of first last place
  unfolding group
  group_place first last place = refl

  four_blocks : (first last place : ℕ) → length (group b rules first last place).blocks ≡ 4
  unfolding group
  four_blocks first last place = refl

  read_blocks : (first last place : ℕ) → AreNumbers first last → length (filter was_read (group b rules first last place).blocks) ≡ last - first + 1
  unfolding group
  read_blocks first last place h = grind (arith, common_steps)

  -- it needs the bits up to that place
  bits_of_group : (first last place : ℕ) → AreNumbers first last → 26 * (last - first) + 25 ≤ place → bits_of_item (Group (group b rules first last place)) ≡ place + 1
  bits_of_group first last place numbers room = omega (arith, group_place first last place, read_blocks first last place numbers, numbers, room)

  -- a group, and then the rest
  group_first : (all first last place least least_group bits : ℕ) (rest : List Item) → AreNumbers first last → 26 * (last - first) + 25 ≤ place
      → least_group ≤ place_of first last place → bits ≤ place + 1 → place + 1 ≤ all
      → AreInOrder all (next_of true least (place_of first last place + 1) (place + 1)) rest
      → AreInOrder all (next_of true least least_group bits) (Group (group b rules first last place) ∷ rest)
  group_first all first last place least least_group bits rest numbers room after needed within others = grind (arith, common_steps, group_place, bits_of_group, four_blocks)

  -- where the group of a lock begins
  abbrev start : Lock → ℕ
  start lock = lock.due - 26 * (lock.number - lock.first) - 25

  abbrev is_locked : State → Bool
  is_locked Searching = false
  is_locked (Locked lock) = true

  -- the next items of a run in this state, before the bit at this place
  abbrev Fits : State → ℕ → ℕ → ℕ → ℕ → Type 0
  Fits Searching place least least_group bits = (least ≤ place) × (least_group ≤ place - 25) × (bits ≤ place)
  Fits (Locked lock) place least least_group bits = (least ≤ place) × (least_group ≤ start lock) × (bits ≤ lock.due - 25)

  -- whatever fits the state before this place, these items come in order
  abbrev Goes : ℕ → State → ℕ → List Item → Type 0
  Goes all s place items = (least least_group bits : ℕ) → Fits s place least least_group bits → AreInOrder all (next_of (is_locked s) least least_group bits) items

  -- ---- a search

  -- the group that a lock's first block closes, if that is block 4, and the lock after it
  acquired_fits : (all x i least least_group : ℕ) (rest : List Item) → 51 ≤ i → 1 ≤ x → x ≤ 4 → i + 1 ≤ all → least_group ≤ i - 25
      → Goes all (Locked (lock_after i x 0 x)) (i + 1) rest
      → AreInOrder all (next_of true (i + 1) least_group (i + 1)) (completed_group b rules x x i ++ rest)
  acquired_fits all x i least least_group rest late low high within after goes = grind (arith, common_steps, group_first, ne_eqb)

  -- the state and the items, if the place acquires with this number or none
  abbrev found : ℕ → Option ℕ → State × List Item
  found i o = elim o [ None ↦ (Searching, []) | Some x ↦ (Locked (lock_after i x 0 x), Acquired i x ∷ completed_group b rules x x i) ]

  search_step : (all i : ℕ) (rest : List Item) → AcquisitionsAreLate → i < all → Goes all (step b rules i Searching) (i + 1) rest → Goes all Searching i (items_at b rules i Searching ++ rest)
  search_step all i rest late within = at_case (acquired b rules i) refl where
    at_case : (o : Option ℕ) → acquired b rules i ≡ o → Goes all (found i o).0 (i + 1) rest → Goes all Searching i ((found i o).1 ++ rest)
    at_case None e goes least least_group bits fits = goes least least_group bits (omega (arith, fits), omega (arith, fits), omega (arith, fits))
    at_case (Some x) e goes least least_group bits fits =
        let range = late b rules i x e in
        (refl, fits.0, omega (arith, fits), omega (arith, within), acquired_fits all x i least least_group rest range.0 range.1 range.2 (omega (arith, within)) (omega (arith, fits)) goes)

  -- ---- a lock

  numbers_of : (first number : ℕ) → NumbersInOrder first number → AreNumbers first number
  numbers_of first number h = elim h [ inl one ↦ (omega (arith, one), omega (arith, one), omega (arith, one)) | inr later ↦ (omega (arith, later), omega (arith, later), omega (arith, later)) ]

  -- the state after block x of a lock at place i, which closes its group if it is block 4
  kept_fits : (all i first x bad least least_group bits : ℕ) (rest : List Item) → AreNumbers first x → 26 * (x - first) + 25 ≤ i → least ≤ i → least_group ≤ place_of first x i → bits ≤ i - 25
      → i + 1 ≤ all
      → Goes all (Locked (lock_after i x bad first)) (i + 1) rest
      → AreInOrder all (next_of true least least_group bits) (completed_group b rules first x i ++ rest)
  kept_fits all i first x bad least least_group bits rest numbers room before after needed within goes = grind (arith, common_steps, eq-eqb, group_first, ne_eqb)

  abbrev bad_after_block : ℕ → Lock → ℕ
  bad_after_block i lock = history_after_block b rules i lock.number lock.bad

  -- the state and the items after the block at this place, if it is one too many that is bad, or not
  abbrev after_block : ℕ → Lock → Bool → State × List Item
  after_block i lock many = elim many [
    | false ↦ (Locked (lock_after i lock.number (bad_after_block i lock) lock.first), completed_group b rules lock.first lock.number i)
    | true ↦ (Searching, Group (group b rules lock.first lock.number i) ∷ LostLock i ∷ [])
  ]

  -- the same after the bit, if a block is due there or not
  abbrev after_locked : ℕ → Lock → Bool → State × List Item
  after_locked i lock due = elim due [ false ↦ (Locked lock, []) | true ↦ after_block i lock (are_too_many rules.loss (bad_after_block i lock)) ]

  lock_step : (all i : ℕ) (lock : Lock) (rest : List Item) → i < all → IsLawfulLock rules i lock → Goes all (step b rules i (Locked lock)) (i + 1) rest
      → Goes all (Locked lock) i (items_at b rules i (Locked lock) ++ rest)
  lock_step all i lock rest within lawful = at_due (lock.due == i) refl where
    at_read : (many : Bool) → lock.due ≡ i → Goes all (after_block i lock many).0 (i + 1) rest → Goes all (Locked lock) i ((after_block i lock many).1 ++ rest)
    at_read false same goes least least_group bits fits =
        kept_fits all i lock.first lock.number (bad_after_block i lock) least least_group bits rest (numbers_of lock.first lock.number lawful.in_order) (omega (arith, lawful.enough_bits, same))
        fits.0 (omega (arith, fits, same)) (omega (arith, fits, same)) (omega (arith, within)) goes
    at_read true same goes least least_group bits fits =
        let numbers = numbers_of lock.first lock.number lawful.in_order in
        let room : 26 * (lock.number - lock.first) + 25 ≤ i = omega (arith, lawful.enough_bits, same) in
        group_first all lock.first lock.number i least least_group bits (LostLock i ∷ rest) numbers room (omega (arith, fits, same)) (omega (arith, fits, same)) (omega (arith, within)) (
          refl,
          fits.0,
          omega arith,
          omega (arith, within),
          goes (i + 1) (place_of lock.first lock.number i + 1) (i + 1) (omega arith, omega (arith, room), omega arith),
        )

    at_due : (due : Bool) → (lock.due == i) ≡ due → Goes all (after_locked i lock due).0 (i + 1) rest → Goes all (Locked lock) i ((after_locked i lock due).1 ++ rest)
    at_due false e goes least least_group bits fits = goes least least_group bits (omega (arith, fits), fits.1, fits.2)
    at_due true e goes least least_group bits fits = at_read (are_too_many rules.loss (bad_after_block i lock)) (eqb-true lock.due i e) goes least least_group bits fits

  -- ---- the end, and the whole run

  end_goes : (all : ℕ) (s : State) → IsLawful rules all s → Goes all s all (items_of_end b rules s)
  end_goes all s lawful least least_group bits fits = grind (arith, common_steps, eq-eqb, group_first)

  run_goes : (all n : ℕ) (s : State) (i : ℕ) → AcquisitionsAreLate → StepsAreLawful → IsLossRule rules.loss → i + n ≡ all → IsLawful rules i s
      → Goes all s i ((run b rules s i n).1 ++ items_of_end b rules (run b rules s i n).0)
  run_goes all zero s i late lawful loss is here = grind (arith, common_steps, end_goes)
  run_goes all (suc n) s i late lawful loss is here = grind (arith, common_steps, append_assoc, search_step, lock_step, run_goes all n (step b rules i s) (i + 1) late lawful loss (omega (arith, is)) (lawful b rules loss i s here))

pub items_are_in_order : RunsAreReports → StepsAreLawful → AcquisitionsAreLate → (b : Signal) (rules : RuleNumbers) → IsLossRule rules.loss
    → AreInOrder (length_of b) at_first (report_items b rules)
items_are_in_order reports lawful late b rules loss = grind (arith, common_steps, run_goes)
