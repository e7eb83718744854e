use Rattle.rds_abi.proofs.Shared.{common_steps, ◌≡◌, ◌+◌, ◌*◌, ◌/◌, ◌^◌, ◌≤◌, ◌++◌, ◌⊎◌, ◌∙◌, ℕ, List, ap, arith, length, map, subst, sym, take, err_from_is_err_and, Item, complete, completed, live_next, IsFilled, IsTooMuch, place_after, stream_of, terms_of, item_in_c, ℤ, soft_item_in_c, HasHeardSoft, IsPushed, RefusesSoft, bytes_of, read_again}
use Rattle.rds_abi.proofs.SoftPush.{IsTaken, all-after, all-completed, all-left, all-refused, piece-bytes, piece-first, piece-long, piece-many, piece-taken, roomy-soft, soft-complete, soft-heard, soft-written, with-margin}
use Rattle.rds_abi.proofs.{SoftSymbols.byte_count_of, Streams.refused_push, soft.push_soft.Goals.After-drop-told-inside-4, soft.push_soft.Goals.After-drop-told-inside-in_err-go_on-3}
use Rattle.rds_abi.proofs.soft.push_soft.Goals as goal

pub go_on-requires-clause-few : goal.go_on-requires-clause-few
go_on-requires-clause-few c =
    omega (
      arith,
      ap (λ (bs : List ℕ). length bs) (c.deref.ensures.value ∙ c.in_ok-bytes.ensures),
      byte_count_of c.piece_of-piece.result.now,
      c.piece_of-piece.ensures.count,
    )

pub go_on-requires-clause-held : goal.go_on-requires-clause-held
go_on-requires-clause-held c =
    omega (arith, ap (λ (bs : List ℕ). length bs) (c.deref.ensures.value ∙ c.in_ok-bytes.ensures), byte_count_of c.piece_of-piece.result.now)

-- the piece, if the call went well, and if it was refused
taken : (c : After-drop-told-inside-4) → IsTaken c.args.symbols.now (length c.args.room.now) (terms_of c.args.rules c.args.gaps.now) c.in_ok-told.told c.args.stream.now.stream
    c.piece_of-piece.result.now c.deref.result.now c.known_from.result (8 * (c.kept_of.result + c.saturating_sub.result / 8))
taken c = grind (arith, common_steps, byte_count_of c.piece_of-piece.result.now)

refused-piece : (c : After-drop-told-inside-in_err-go_on-3) → IsTaken c.args.symbols.now (length c.args.room.now) (terms_of c.args.rules c.args.gaps.now) c.in_ok-told.told c.args.stream.now.stream
    c.piece_of-piece.result.now c.deref.result.now c.known_from.result (8 * (c.kept_of.result + c.saturating_sub.result / 8))
refused-piece c = grind (arith, common_steps, byte_count_of c.piece_of-piece.result.now)

pub returns-clause-taken : goal.returns-clause-taken
returns-clause-taken c = omega (arith, piece-many (taken c), c.deref.ensures.len, c.len.ensures)

pub returns-clause-next : goal.returns-clause-next
returns-clause-next c = record { given = c.in_ok-told.ensures.given; left = all-left (taken c) c.go_on.new.stream.stream c.in_ok-go_on.ensures.next }

pub returns-clause-lawful : goal.returns-clause-lawful
returns-clause-lawful c =
    let s = c.args.stream.now.stream in
    let went = c.in_ok-go_on.ensures in
    record {
      margin_is = c.in_ok-margin.ensures.range;
      followed = record { given = c.in_ok-told.ensures.given; left = all-left (taken c) s went.lawful };
      fits = subst (λ (bs : List ℕ). place_after s bs ≤ 2 ^ 36) (piece-bytes (taken c)) went.fits;
    }

after : (c : After-drop-told-inside-4) → stream_of (terms_of c.args.rules c.args.gaps.now) c.go_on.new.stream.stream
    ≡ live_next (stream_of (terms_of c.args.rules c.args.gaps.now) c.args.stream.now.stream) c.deref.result.now
after c = all-after (taken c) c.in_ok-go_on.ensures.lawful c.in_ok-go_on.ensures.fits c.go_on.new.stream.stream c.in_ok-go_on.ensures.after

pub returns-clause-after : goal.returns-clause-after
returns-clause-after c =
    after c ∙ ap (λ (bs : List ℕ). live_next (stream_of (terms_of c.args.rules c.args.gaps.now) c.args.stream.now.stream) bs) (piece-bytes (taken c))

-- ---- refused

pub returns-in_err-go_on-clause-refused : goal.returns-in_err-go_on-clause-refused
returns-in_err-go_on-clause-refused c =
    let room = length c.args.room.now in
    let bytes = c.deref.result.now in
    let soft = c.args.stream.now in
    let p = err_from_is_err_and c.from_residual-in_err-go_on.result c.from_residual-in_err-go_on.ensures.1 in
    let r = c.in_err-go_on.field-0.0 in
    let refused = refused_push c.args.rules c.args.gaps.now soft.stream bytes r _ _ c.in_ok-told.ensures.given
    (all-refused (refused-piece c) r room c.go_on.new.count (c.go_on.new.count ≡ c.args.count.now) c.in_err-go_on.ensures.refused) in
    rw (p.1, p.2)
    (subst (λ (bs : List ℕ).
    (IsPushed c.args.rules c.args.gaps.now c.args.margin soft bs
    × IsTooMuch (map item_in_c (completed (stream_of (terms_of c.args.rules c.args.gaps.now) soft.stream) bs)) room r c.go_on.new.count)
    ⊎ (RefusesSoft c.args.rules c.args.gaps.now c.args.margin soft bs r × (c.go_on.new.count ≡ c.args.count.now)))
    (piece-bytes (refused-piece c))
    (with-margin c.args.rules c.args.gaps.now c.args.margin soft bytes r _ _ c.in_ok-margin.ensures.range refused))

pub returns-in_err-go_on-clause-roomy : goal.returns-in_err-go_on-clause-roomy
returns-in_err-go_on-clause-roomy c =
    let p = err_from_is_err_and c.from_residual-in_err-go_on.result c.from_residual-in_err-go_on.ensures.1 in
    rw (p.1, p.2)
    (roomy-soft c.runs_give_few_items.ensures c.in_ok-told.told c.args.stream.now.stream c.args.symbols.now c.deref.result.now (length c.args.room.now)
    c.go_on.new.count c.in_err-go_on.field-0.0 (c.go_on.new.count ≡ c.args.count.now) (piece-many (refused-piece c)) c.in_err-go_on.ensures.refused)

-- ---- heard

-- the stream that was heard before, by the piece
heard-before : (c : After-drop-told-inside-4) (before : List ℤ)
    → HasHeardSoft (terms_of c.args.rules c.args.gaps.now) c.args.stream.now (before ++ take 1 c.args.symbols.now)
    → HasHeardSoft (terms_of c.args.rules c.args.gaps.now) c.args.stream.now (before ++ take 1 c.piece_of-piece.result.now)
heard-before c before h =
    subst (λ (xs : List ℤ). HasHeardSoft (terms_of c.args.rules c.args.gaps.now) c.args.stream.now (before ++ xs)) (sym (piece-first (taken c))) h

pub returns-clause-heard : goal.returns-clause-heard
returns-clause-heard c before some h =
    let all = terms_of c.args.rules c.args.gaps.now in
    let t = taken c in
    let went = c.in_ok-go_on.ensures in
    let count : length c.deref.result.now ≡ c.len.result = omega (arith, c.deref.ensures.len, c.len.ensures) in
    subst (λ (xs : List ℤ). HasHeardSoft all c.go_on.new.stream (before ++ xs)) (piece-taken t c.len.result count)
    (soft-heard c.next_is_heard.ensures all c.args.stream.now c.piece_of-piece.result.now c.deref.result.now c.in_ok-told.ensures.given.range
    (all-left t c.args.stream.now.stream went.lawful) t.bytes_are (piece-long t some) before (heard-before c before h) c.go_on.new.stream (after c) went.last)

pub returns-clause-items : goal.returns-clause-items
returns-clause-items c before later some h =
    let symbols = c.args.symbols.now in
    let piece = c.piece_of-piece.result.now in
    let bytes = c.deref.result.now in
    let all = terms_of c.args.rules c.args.gaps.now in
    let soft = c.args.stream.now in
    let t = taken c in
    let went = c.in_ok-go_on.ensures in
    let left = all-left t soft.stream went.lawful in
    let range = c.in_ok-told.ensures.given.range in
    let long = piece-long t some in
    let heard = heard-before c before h in
    let count : length bytes ≡ c.len.result = omega (arith, c.deref.ensures.len, c.len.ensures) in
    let taken_is : piece ≡ take (8 * c.len.result + 1) symbols = piece-taken t c.len.result count in
    let same = all-completed t went.lawful went.fits in
    let items = completed (stream_of all soft.stream) bytes in
    let complete_is : complete all (bytes_of (before ++ take 1 symbols)) ++ items ≡ complete all (bytes_of (before ++ take (8 * c.len.result + 1) symbols)) =
    subst (λ (xs : List ℤ). complete all (bytes_of (before ++ xs)) ++ items ≡ complete all (bytes_of (before ++ take (8 * c.len.result + 1) symbols))) (piece-first t)
    (subst (λ (xs : List ℤ). complete all (bytes_of (before ++ take 1 piece)) ++ items ≡ complete all (bytes_of (before ++ xs))) taken_is
    (soft-complete c.next_is_heard.ensures all soft piece bytes range left t.bytes_are long before heard)) in
    let written = soft-written c.next_is_heard.ensures all soft piece bytes range left t.bytes_are long before heard c.acquisitions_are_late.ensures c.steps_are_lawful.ensures later c.args.margin
    c.in_ok-told.told c.args.room.now c.go_on.new.room same (rw c.in_ok-margin.ensures.margin at went.filled) in (
      items,
      complete_is,
      subst (λ (xs : List ℤ). IsFilled (map soft_item_in_c (read_again all c.args.margin ((before ++ xs) ++ later) items)) c.args.room.now c.go_on.new.room) taken_is written,
      went.count ∙ ap (λ (xs : List Item). length xs) same,
    )
