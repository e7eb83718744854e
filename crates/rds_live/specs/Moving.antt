-- A run depends only on the bits heard: if the same is heard at other places, the same is found there. The
-- laws `runs_move` and `ends_move` are these. This project's rules.
use Rattle.std.specs.Prelude.{◌≡◌, ℕ, ◌+◌, ◌<◌, ◌≤◌, ◌⊎◌, List, map}
use Rattle.rds_stream.specs.Recording.{Signal, heard, length_of}
use Rattle.rds_sync.specs.{declared.state.State.State, declared.state.State.TheVariants.Searching, declared.state.State.TheVariants.Locked, declared.item.Item.Item, declared.item.Item.TheVariants.Acquired, declared.item.Item.TheVariants.Group, declared.item.Item.TheVariants.LostLock, Rules.RuleNumbers, Loss.IsLossRule, Lawful.IsLawful, Ranges.farthest_reach, Step.run, Step.items_of_end}

-- the state, with all places moved on by d
abbrev pub moved_state : ℕ → State → State
moved_state d Searching = Searching
moved_state d (Locked lock) = Locked (record lock { due = lock.due + d })

-- the item, with all places moved on by d
abbrev pub moved_item : ℕ → Item → Item
moved_item d (Acquired a x) = Acquired (a + d) x
moved_item d (Group g) = Group (record g { place = g.place + d })
moved_item d (LostLock a) = LostLock (a + d)

abbrev pub moved_items : ℕ → List Item → List Item
moved_items d items = map (moved_item d) items

-- how many places before a bit a run may hear: the farthest partner's window
abbrev pub most_behind : ℕ
most_behind = 233

-- all of the part is heard in the whole, d places further. The part begins where the whole does, or so early
-- before place `from` that a run from there on hears nothing from before it
pub record IsPartHeard (whole part : Signal) (d from : ℕ) : Type 0 where
  pub heard_same : (i : ℕ) → 25 ≤ i → i < length_of part → heard part i ≡ heard whole (i + d)
  pub early : (d ≡ 0) ⊎ (most_behind ≤ from)

-- a run over a part is the run over the whole there, except for the places
abbrev pub RunsMove : Type 0
RunsMove = (whole part : Signal) (rules : RuleNumbers) (d : ℕ) (s : State) (from bits : ℕ)
    → IsLossRule rules.loss → rules.reach ≤ farthest_reach → IsLawful rules from s
    → IsPartHeard whole part d from → from + bits ≤ length_of part
    → let there = run part rules s from bits in
    run whole rules (moved_state d s) (from + d) bits ≡ (moved_state d there.0, moved_items d there.1)

-- and so is the group in progress at its end
abbrev pub EndsMove : Type 0
EndsMove = (whole part : Signal) (rules : RuleNumbers) (d : ℕ) (s : State)
    → IsLawful rules (length_of part) s → IsPartHeard whole part d (length_of part)
    → items_of_end whole rules (moved_state d s) ≡ moved_items d (items_of_end part rules s)
