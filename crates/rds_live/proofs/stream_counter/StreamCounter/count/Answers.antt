use Rattle.rds_live.proofs.Names.{common_steps, arith, ◌≡◌, ◌^◌, ◌++◌, List, ap, subst, sym, ◌∙◌, ℕ, AreGaps, IsInRange, NextIsHeard, PiecesJoin, live_next, HasHeard, IsStreamDecoder, LiveOf}
use Rattle.rds_live.proofs.Sewing.{heard-on}
use Rattle.rds_live.proofs.stream_counter.StreamCounter.count.Goals as goal

-- the stream is heard on
heard_by : (live whole next : LiveOf) (gathered bytes : List ℕ) → NextIsHeard → PiecesJoin → live_next live gathered ≡ whole → IsInRange live.terms.rules → IsStreamDecoder live → next ≡ live_next whole bytes
    → (before : List ℕ) → HasHeard whole before → HasHeard next (before ++ bytes)
heard_by live whole next gathered bytes hears join is range known more before heard =
    let ranged = subst (λ (l : LiveOf). IsInRange l.terms.rules) is range in
    let gapped = subst (λ (l : LiveOf). AreGaps (2 ^ 36) l.terms.gaps) is known.gaps in
    subst (λ (l : LiveOf). HasHeard l (before ++ bytes)) (sym more) (heard-on hears join whole before bytes ranged gapped heard)

pub returns-then-bytes-capacity-clause-next : goal.returns-then-bytes-capacity-clause-next
returns-then-bytes-capacity-clause-next g c =
    let s = c.self.inside in
    ap (λ (xs : List ℕ). live_next s.live xs) c.append.ensures
    ∙ sym (c.pieces_join.ensures s.live s.gathered.items c.args.bytes.now c.is_known.ensures.range c.is_known.ensures.live).0
    ∙ ap (λ (l : LiveOf). live_next l c.args.bytes.now) c.self.view_is

pub returns-then-bytes-capacity-clause-heard : goal.returns-then-bytes-capacity-clause-heard
returns-then-bytes-capacity-clause-heard g c before h =
    let s = c.self.inside in
    heard_by s.live c.args.self.now _ s.gathered.items c.args.bytes.now c.next_is_heard.ensures c.pieces_join.ensures c.self.view_is c.is_known.ensures.range c.is_known.ensures.live
    (returns-then-bytes-capacity-clause-next g c) before h

-- the decoder has heard what was gathered, and then these bytes
pub returns-then-bytes-capacity-2-clause-next : goal.returns-then-bytes-capacity-2-clause-next
returns-then-bytes-capacity-2-clause-next g c =
    let s = c.self.inside in
    let bytes = c.args.bytes.now in
    ap (λ (xs : List ℕ). live_next c.count_by.new.live xs) (c.append-then-bytes-capacity-2.ensures ∙ ap (λ (xs : List ℕ). xs ++ bytes) c.clear.ensures.items)
    ∙ ap (λ (l : LiveOf). live_next l bytes)
    (c.count_by.ensures.next ∙ ap (λ (xs : List ℕ). live_next s.live xs) c.as_slice-gathered.ensures.value ∙ c.self.view_is)

pub returns-then-bytes-capacity-2-clause-heard : goal.returns-then-bytes-capacity-2-clause-heard
returns-then-bytes-capacity-2-clause-heard g c before h =
    let s = c.self.inside in
    heard_by s.live c.args.self.now _ s.gathered.items c.args.bytes.now c.next_is_heard.ensures c.pieces_join.ensures c.self.view_is c.is_known.ensures.range c.is_known.ensures.live
    (returns-then-bytes-capacity-2-clause-next g c) before h

pub returns-clause-next : goal.returns-clause-next
returns-clause-next g c =
    let s = c.self.inside in
    let bytes = c.args.bytes.now in
    ap (λ (xs : List ℕ). live_next c.count_by-2.new.live xs) c.clear.ensures.items ∙ c.is_still.ensures.known ∙ c.count_by-2.ensures.next
    ∙ ap (λ (l : LiveOf). live_next l bytes)
    (c.count_by.ensures.next ∙ ap (λ (xs : List ℕ). live_next s.live xs) c.as_slice-gathered.ensures.value ∙ c.self.view_is)

pub returns-clause-heard : goal.returns-clause-heard
returns-clause-heard g c before h =
    let s = c.self.inside in
    heard_by s.live c.args.self.now _ s.gathered.items c.args.bytes.now c.next_is_heard.ensures c.pieces_join.ensures c.self.view_is c.is_known.ensures.range c.is_known.ensures.live
    (returns-clause-next g c) before h

pub invariant_of-self : goal.invariant_of-self
invariant_of-self = grind (arith, common_steps)
