use Rattle.rds_live.proofs.Names.{common_steps, ◌≡◌, ◌++◌, ◌∙◌, List, ap, ap₂, append_assoc, arith, length, sym, ℕ, append-nil, length-append, Item, LiveOf, completed, live_next, eqb-true, nil_from_length}
use Rattle.rds_live.proofs.stream_decoder.decode_bytes.Goals as goal

pub loop-rest-init : goal.loop-rest-init
loop-rest-init c = grind (arith, common_steps, completed)

pub loop-rest-preserved : goal.loop-rest-preserved
loop-rest-preserved c =
    let loop = c.loop-rest in
    let inv = loop.invariant in
    let part = c.split_at.result.0.now in
    let others = c.split_at.result.1.now in
    let parted : loop.rest.now ≡ part ++ others = c.split_at.ensures.by_index.0 in
    let gone = c.take_part.ensures.next in
    let pieces = c.pieces_join.ensures loop.live part others c.is_known.ensures.range c.is_known.ensures.live in
    let next = ap (λ (l : LiveOf). live_next l others) gone ∙ pieces.0 ∙ ap (λ (xs : List ℕ). live_next loop.live xs) (sym parted) ∙ inv.next in
    let some = c.deref.ensures.value ∙ c.take_part.ensures.completed in
    record {
      terms = ap (λ (l : LiveOf). l.terms) gone ∙ inv.terms;
      next = next;
      completed = ap (λ (xs : List Item). xs ++ completed c.take_part.new.self others) c.in_ok-extend_from_slice.ensures.items
          ∙ append_assoc loop.items.items c.deref.result.now (completed c.take_part.new.self others)
          ∙ ap (λ (xs : List Item). loop.items.items ++ xs)
          (ap₂ (λ (xs : List Item) (l : LiveOf). xs ++ completed l others) some gone ∙ pieces.1 ∙ ap (λ (xs : List ℕ). completed loop.live xs) (sym parted))
          ∙ inv.completed;
      place = ap (λ (l : LiveOf). l.place) next;
      few = omega (arith, ap length parted, length-append part others, inv.few);
      room = omega (arith, c.take_part.ensures.room, inv.room);
    }

pub returns-clause-next : goal.returns-clause-next
returns-clause-next c =
    let rest = c.loop-rest.rest.now in
    let live = c.loop-rest.live in
    let none = nil_from_length rest (eqb-true (length rest) 0 (sym c.is_empty.ensures ∙ c.loop-rest-test.false)) in
    sym c.is_still.ensures.known ∙ ap (λ (xs : List ℕ). live_next live xs) (sym none) ∙ c.loop-rest.invariant.next

pub returns-clause-completed : goal.returns-clause-completed
returns-clause-completed c =
    let rest = c.loop-rest.rest.now in
    let live = c.loop-rest.live in
    let items = c.loop-rest.items.items in
    let none = nil_from_length rest (eqb-true (length rest) 0 (sym c.is_empty.ensures ∙ c.loop-rest-test.false)) in
    sym (append-nil items) ∙ ap (λ (xs : List Item). items ++ xs) (sym c.is_still.ensures.none) ∙ ap (λ (xs : List ℕ). items ++ completed live xs) (sym none)
    ∙ c.loop-rest.invariant.completed
