-- Counts of items, with the counts of blocks in lanes of a number, and runs that count their items. Cited by the bodies below `run_report`
-- and `Tally`, and by no public call.
use Rattle.std.specs.Prelude.{◌≡◌, ℕ, ◌+◌, ◌*◌, ◌/◌, ◌%◌, ◌^◌, ◌≤◌, List, [], ◌∷◌, length, if◌then◌else◌, ◌-◌, ◌<◌, ◌++◌}
use Rattle.rds_sync.specs.{declared.item.Item.Item, declared.totals.Totals.Totals, Counting.plus, Counting.IsAtMost, Inside.Outcomes.Outcome, Inside.Outcomes.was_valid, Inside.Outcomes.was_lost, Inside.Outcomes.has_span, Inside.Outcomes.bits_inverted, Inside.Outcomes.group_totals, Totals.totals_of, declared.lock.Lock.Lock, declared.state.State.State, declared.state.State.TheVariants.Locked, Lawful.IsLawful, Loss.IsLawfulBad, Rules.RuleNumbers, Step.run}
use Rattle.rds_stream.specs.Recording.{Signal, length_of}

-- the totals of some items, and how many they are
pub record CountOf : Type 0 where
  pub totals : Totals
  pub items : ℕ

abbrev pub no_count : CountOf
no_count = record { totals = totals_of []; items = 0 }

abbrev pub count_of : List Item → CountOf
count_of items = record { totals = totals_of items; items = length items }

-- of two lists, one after the other
abbrev pub joined : CountOf → CountOf → CountOf
joined first more = record { totals = plus first.totals more.totals; items = first.items + more.items }

-- a group whose blocks came out so
abbrev pub group_count : List Outcome → CountOf
group_count os = record { totals = group_totals os; items = 1 }

abbrev pub acquired_count : CountOf
acquired_count = record { totals = record (totals_of []) { acquired = 1 }; items = 1 }

abbrev pub loss_count : CountOf
loss_count = record { totals = record (totals_of []) { losses = 1 }; items = 1 }

-- the counts of a block, each in 16 bits, the lowest first
abbrev pub in_lanes : Outcome → ℕ
in_lanes o = (if was_valid o then 1 else 0) + 2 ^ 16 * (if has_span 1 o then 1 else 0)
    + 2 ^ 32 * (if has_span 2 o then 1 else 0)
    + 2 ^ 48 * (if has_span 3 o then 1 else 0) + 2 ^ 64 * (if has_span 4 o then 1 else 0)
    + 2 ^ 80 * (if has_span 5 o then 1 else 0)
    + 2 ^ 96 * (if was_lost o then 1 else 0) + 2 ^ 112 * bits_inverted o

-- the counts of `clean` whole groups and of other groups, acquisitions and losses, given the counts of the
-- other groups' blocks
abbrev pub counted : ℕ → ℕ → ℕ → ℕ → ℕ → ℕ → CountOf
counted lanes clean groups complete acquired losses = record {
  totals = record {
    valid = lanes % 65536 + 4 * clean;
    bursts = (lanes / 2 ^ 16 % 65536) ∷ (lanes / 2 ^ 32 % 65536) ∷ (lanes / 2 ^ 48 % 65536)
        ∷ (lanes / 2 ^ 64 % 65536)
        ∷ (lanes / 2 ^ 80 % 65536) ∷ [];
    lost = lanes / 2 ^ 96 % 65536;
    bits = lanes / 2 ^ 112 % 65536;
    groups = groups + clean;
    complete = complete + clean;
    acquired = acquired;
    losses = losses;
  };
  items = clean + groups + acquired + losses;
}

-- lanes of 16 bits, none of which has more than n
pub record AreLanes (lanes n : ℕ) : Type 0 where
  pub sum : lanes ≡ lanes % 65536 + 2 ^ 16 * (lanes / 2 ^ 16 % 65536)
      + 2 ^ 32 * (lanes / 2 ^ 32 % 65536) + 2 ^ 48 * (lanes / 2 ^ 48 % 65536)
      + 2 ^ 64 * (lanes / 2 ^ 64 % 65536) + 2 ^ 80 * (lanes / 2 ^ 80 % 65536)
      + 2 ^ 96 * (lanes / 2 ^ 96 % 65536) + 2 ^ 112 * (lanes / 2 ^ 112 % 65536)
  pub valid : lanes % 65536 ≤ n
  pub burst1 : lanes / 2 ^ 16 % 65536 ≤ n
  pub burst2 : lanes / 2 ^ 32 % 65536 ≤ n
  pub burst3 : lanes / 2 ^ 48 % 65536 ≤ n
  pub burst4 : lanes / 2 ^ 64 % 65536 ≤ n
  pub burst5 : lanes / 2 ^ 80 % 65536 ≤ n
  pub lost : lanes / 2 ^ 96 % 65536 ≤ n
  pub bits : lanes / 2 ^ 112 % 65536 ≤ n

-- with these items more, one after the other
abbrev pub added : CountOf → List Item → CountOf
added before [] = before
added before (item ∷ items) = added (joined before (count_of (item ∷ []))) items

-- ---- a run that counts its items, part by part

-- how far the run from state s before `place` came, and the counts of the items that it gave
pub record IsCountStretch (b : Signal) (rules : RuleNumbers) (s : State) (place to : ℕ) (before : CountOf)
    (reached : ℕ × State) (after : CountOf) : Type 0 where
  pub forward : place < reached.0
  pub limit : reached.0 ≤ to
  pub state : reached.1 ≡ (run b rules s place (reached.0 - place)).0
  pub counts : after ≡ added before (run b rules s place (reached.0 - place)).1
  pub lawful : IsLawful rules reached.0 reached.1

-- the lock came from between two groups to between two others, and the groups in between were counted
pub record HasCountedOn (b : Signal) (rules : RuleNumbers) (lock : Lock) (to : ℕ) (before : CountOf)
    (now : Lock) (after : CountOf) : Type 0 where
  pub between : (now.number ≡ 1) × (now.first ≡ 1)
  pub few_bad : IsLawfulBad rules.loss now.bad
  pub from_on : lock.due ≤ now.due
  pub limit : lock.due < now.due → now.due - 25 ≤ to
  pub far : lock.due < now.due → lock.due < now.due - 25
  pub state : (run b rules (Locked lock) (lock.due - 25) (now.due - lock.due)).0 ≡ Locked now
  pub counts : after ≡ added before (run b rules (Locked lock) (lock.due - 25) (now.due - lock.due)).1

-- ---- a run that goes on, as it is kept: spans up to where the last one ended, and counts

-- the spans give a list up to place a, at which the run was in state s; at `place` it is in state t, and the
-- counts, added up or not yet, are of all that it gave
pub record IsTally (b : Signal) (rules : RuleNumbers) (list : List Item) (a : ℕ) (s : State) (place : ℕ)
    (t : State) (first counts : CountOf) : Type 0 where
  pub start : IsLawful rules a s
  pub order : a ≤ place
  pub within : place ≤ length_of b
  pub near : place ≤ 2 ^ 36
  pub state : t ≡ (run b rules s a (place - a)).0
  pub lawful : IsLawful rules place t
  pub count : joined first counts ≡ count_of (list ++ (run b rules s a (place - a)).1)
  pub few : length (list ++ (run b rules s a (place - a)).1) ≤ 2 * place
  pub counted : counts.items ≤ 3000
  pub small : IsAtMost (2 ^ 10 * first.items) first.totals
