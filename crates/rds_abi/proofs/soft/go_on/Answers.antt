use Rattle.rds_abi.proofs.Shared.{◌≡◌, ◌-◌, ◌*◌, ◌/◌, ◌++◌, ◌∙◌, ℕ, List, ap, arith, drop, inl, inr, length, map, min, refl, subst, sym, length-map, Item, IsStreamDecoder, LiveOf, most_kept, completed, live_next, IsFilled, stream_in_c, stream_of, item_in_c, ℤ, symbols_of, soft_item_in_c, again_in, symbols_kept}
use Rattle.rds_abi.proofs.Streams.{says_next}
use Rattle.rds_abi.proofs.soft.go_on.Goals as goal

pub returns-then-room-len-clause-refused : goal.returns-then-room-len-clause-refused
returns-then-room-len-clause-refused c =
    let found = completed (stream_of c.args.told.now c.args.stream.now.stream) c.args.bytes.now in
    let items : c.in_ok-items.items.items ≡ found =
    c.in_ok-items.ensures.items ∙ ap (λ (l : LiveOf). completed l c.args.bytes.now) c.in_ok-live.ensures.live in
    let count = ap (λ (xs : List Item). length xs) items in
    inl (
      c.in_ok-live.ensures.left,
      c.in_ok-refuse_long.ensures.fits,
      (
        refl,
        omega (arith, c.if-room-len.true, c.len.ensures, count, length-map found item_in_c),
        omega (arith, c.len-found.ensures, count, length-map found item_in_c),
      ),
    )

pub returns-clause-after : goal.returns-clause-after
returns-clause-after c =
    let next = c.in_ok-items.ensures.next ∙ ap (λ (l : LiveOf). live_next l c.args.bytes.now) c.in_ok-live.ensures.live in
    says_next c.args.told.now c.args.stream.now.stream c.stream_in_c-stream.result c.in_ok-live.live c.items_of.new.live c.in_ok-live.ensures.live
    (ap (λ (l : LiveOf). l.terms) c.in_ok-items.ensures.next) c.stream_in_c-stream.ensures.says
    ∙ next

pub returns-clause-next : goal.returns-clause-next
returns-clause-next c =
    let says = says_next c.args.told.now c.args.stream.now.stream c.stream_in_c-stream.result c.in_ok-live.live c.items_of.new.live c.in_ok-live.ensures.live
    (ap (λ (l : LiveOf). l.terms) c.in_ok-items.ensures.next) c.stream_in_c-stream.ensures.says in
    record {
      live = subst (λ (l : LiveOf). IsStreamDecoder l) (sym says) c.stream_in_c-stream.ensures.lawful;
      laid = inr (c.stream_in_c-stream.ensures.laid ∙ ap stream_in_c (sym says));
    }

pub returns-clause-filled : goal.returns-clause-filled
returns-clause-filled c =
    let part = c.in_ok-near.near.recording in
    let kept = min most_kept (c.args.stream.now.stream.place / 8) in
    let margin = c.args.margin in
    let bytes = c.args.bytes.now in
    let P = drop (symbols_kept - 8 * kept) (c.args.stream.now.symbols ++ c.args.piece.now) in
    let before = c.args.stream.now.stream.place - 8 * kept in
    let found = completed (stream_of c.args.told.now c.args.stream.now.stream) bytes in
    let items : c.deref-2.result.now ≡ found =
    c.deref-2.ensures.value ∙ c.in_ok-items.ensures.items ∙ ap (λ (l : LiveOf). completed l bytes) c.in_ok-live.ensures.live in
    let symbols : symbols_of c.deref.result.now ≡ P = ap symbols_of c.deref.ensures.value ∙ c.in_ok-near.ensures.symbols in
    let F : List ℤ → ℕ → List Item → Type 0 =
    λ s d xs. IsFilled (map (λ (item : Item). soft_item_in_c (again_in part s d margin item)) xs) c.args.room.now c.write_again.new.room in (
      part,
      c.in_ok-near.ensures.len,
      c.in_ok-near.ensures.gaps,
      subst (λ (xs : List Item). F P before xs) items
          (subst (λ (d : ℕ). F P d c.deref-2.result.now) c.known_from.ensures
          (subst (λ (s : List ℤ). F s c.known_from.result c.deref-2.result.now) symbols c.write_again.ensures)),
    )
