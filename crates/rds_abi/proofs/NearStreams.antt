-- A stream by the gaps near the part that is heard, in place of all of them.
use Rattle.rds_abi.proofs.Shared.{common_steps, ◌≡◌, ◌+◌, ◌-◌, ◌*◌, ◌/◌, ◌^◌, ◌≤◌, ◌++◌, ◌⊎◌, ℕ, List, arith, length, min, sym, take, length-take, gaps_within, HasHeard, LiveOf, Terms, most_kept, NextIsHeard, before_tail, completed, live_next, IsInRange, AreCompleted, IsLeft, IsMostTaken, IsNear, RefusesOn, RefusesStream, place_after, stream_in_c, stream_of, unheard, RdsStream, Refusal}

-- terms of the same rules are laid out alike
same-laid : (one other : LiveOf) → one.terms.rules ≡ other.terms.rules → other ≡ record { terms = other.terms; tail = one.tail; place = one.place; state = one.state; totals = one.totals } → (s : RdsStream)
    → (s ≡ unheard) ⊎ (s ≡ stream_in_c one) → (s ≡ unheard) ⊎ (s ≡ stream_in_c other)
same-laid one other rules same s laid = grind (arith, common_steps)

module _ {all near : Terms} (s : RdsStream) {before len : ℕ} (is : IsNear all near before len) where
  -- the same streams may have been left
  pub left-near : IsLeft near s → IsLeft all s
  left-near left = grind (arith, common_steps, is.rules, is.may, is.some, same-laid)

  pub near-left : IsLeft all s → IsLeft near s
  near-left left = grind (arith, common_steps, is.rules, is.may, is.some, same-laid)

  -- and the same is refused
  pub refused-near : (refusal : Refusal) → RefusesStream near s refusal → RefusesStream all s refusal
  refused-near reason refused = grind (arith, common_steps, is.may, is.some, near-left)

  -- bytes that are in the part
  module _ (bytes : List ℕ) (begins : before ≡ before_tail (stream_of all s))
      (held : 8 * length (take (min most_kept (s.place / 8)) s.tail) + 8 * length bytes ≤ len) where
    abbrev tail : List ℕ
    tail = take (min most_kept (s.place / 8)) s.tail

    abbrev bits : ℕ
    bits = 8 * length tail + 8 * length bytes

    gaps-same : gaps_within near.gaps (before_tail (stream_of all s)) bits ≡ gaps_within all.gaps (before_tail (stream_of all s)) bits
    gaps-same = grind (arith, common_steps, is.gaps bits held)

    -- complete the same items
    pub completed-near : completed (stream_of near s) bytes ≡ completed (stream_of all s) bytes
    completed-near = grind (arith, common_steps, gaps-same, is.rules)

    -- and leave the same to know
    pub next-near : (new : RdsStream) → stream_of near new ≡ live_next (stream_of near s) bytes → stream_of all new ≡ live_next (stream_of all s) bytes
    next-near new after = grind (arith, common_steps, gaps-same, is.rules)

-- of a stream that was heard these are its items, and this is its state
module _ (law : NextIsHeard) (all : Terms) (s : RdsStream) (bytes : List ℕ) (range : IsInRange all.rules) (left : IsLeft all s) where
  pub heard-next : (new : RdsStream) → stream_of all new ≡ live_next (stream_of all s) bytes → (before : List ℕ)
      → HasHeard (stream_of all s) before → HasHeard (stream_of all new) (before ++ bytes)
  heard-next new after before heard = grind (arith, common_steps, law (stream_of all s) before bytes range left.live heard)

  pub are-completed : AreCompleted all s bytes (completed (stream_of all s) bytes)
  are-completed before heard = sym (law (stream_of all s) before bytes range left.live heard).1

-- all of that of the first of bytes that are pushed to a stream, by the gaps in the bytes that are kept and these, of which a stream may have
-- no more
module _ {all near : Terms} (s : RdsStream) (bytes : List ℕ)
    (is : IsNear all near (s.place - 8 * min most_kept (s.place / 8)) (8 * (min most_kept (s.place / 8) + min 8589934592 (length bytes)))) where
  module _ (left : IsLeft near s) (fits : place_after s bytes ≤ 2 ^ 36) where
    known : IsLeft all s
    known = left-near s is left

    held : (n : ℕ) → 8 * length (take (min most_kept (s.place / 8)) s.tail) + 8 * length (take n bytes)
        ≤ 8 * (min most_kept (s.place / 8) + min 8589934592 (length bytes))
    held n = omega (arith, known.live.kept, fits, length-take n bytes)

    begins : s.place - 8 * min most_kept (s.place / 8) ≡ before_tail (stream_of all s)
    begins = omega (arith, known.live.kept)

    pub pushed-completed : (n : ℕ) → completed (stream_of near s) (take n bytes) ≡ completed (stream_of all s) (take n bytes)
    pushed-completed n = completed-near s is (take n bytes) begins (held n)

    pub pushed-after : (n : ℕ) (new : RdsStream) → stream_of near new ≡ live_next (stream_of near s) (take n bytes)
        → stream_of all new ≡ live_next (stream_of all s) (take n bytes)
    pushed-after n = next-near s is (take n bytes) begins (held n)

    pub pushed-most : (room n : ℕ) → IsMostTaken (stream_of near s) bytes room n → IsMostTaken (stream_of all s) bytes room n
    pushed-most room n most = grind (arith, common_steps, pushed-completed)

  pub pushed-refused : (r : Refusal) (room count : ℕ) (Same : Type 0)
      → RefusesOn near s bytes (take 1 bytes) room count Same r → RefusesOn all s bytes (take 1 bytes) room count Same r
  pushed-refused r room count Same refused = grind (arith, common_steps, known, pushed-completed, refused-near s is)
