use Rattle.rds_abi.proofs.Shared.{◌≡◌, ◌++◌, ◌+◌, ◌*◌, ◌∙◌, ℕ, List, ap, inl, inr, length, refl, subst, sym, err_from_is_err_and, totals_of, HasHeard, LiveOf, report_at, AreLeft, AreTooMany, terms_of, totals_in_c, Refusal}
use Rattle.rds_abi.proofs.{Streams.left, Streams.refused_last, Streams.too_many}
use Rattle.rds_abi.proofs.stream.finish_with.Goals as goal

pub returns-in_err-refuse_last-clause-refused : goal.returns-in_err-refuse_last-clause-refused
returns-in_err-refuse_last-clause-refused c =
    let p = err_from_is_err_and c.from_residual-in_err-refuse_last.result c.from_residual-in_err-refuse_last.ensures.1 in
    let known = rw c.in_ok-told.ensures.terms at c.in_ok-live.ensures.left in
    rw (p.1, p.2)
    (inr (refused_last c.args.rules c.args.gaps.now c.args.stream.now c.args.bytes.now c.args.bits c.in_err-refuse_last.field-0.0 c.in_ok-told.ensures.given (inr (known, c.in_err-refuse_last.ensures.refused)), refl))

pub returns-in_err-write_items-in-Ok-clause-refused : goal.returns-in_err-write_items-in-Ok-clause-refused
returns-in_err-write_items-in-Ok-clause-refused c =
    let p = err_from_is_err_and c.from_residual-in_err-write_items-in-Ok.result c.from_residual-in_err-write_items-in-Ok.ensures.1 in
    let wanted = AreLeft (terms_of c.args.rules c.args.gaps.now) c.args.stream.now c.args.bytes.now c.args.bits in
    let found = left (terms_of c.args.rules c.args.gaps.now) c.args.stream.now c.in_ok-live.live (rw c.in_ok-told.ensures.terms at c.in_ok-live.ensures.live) c.args.bytes.now c.args.bits c.in-Ok.items.items c.in-Ok.ensures.items in
    let told = rw c.deref.ensures.value at c.in_err-write_items-in-Ok.ensures.count in
    let refused = rw c.deref.ensures.value at c.in_err-write_items-in-Ok.ensures.refused in
    rw (p.1, p.2) (inl (
      record { given = c.in_ok-told.ensures.given; left = rw c.in_ok-told.ensures.terms at c.in_ok-live.ensures.left },
      c.in_ok-refuse_last.ensures.last,
      subst (λ (r : Refusal). AreTooMany wanted (length c.args.room.now) r c.write_items.new.count) (sym refused.0)
          (too_many wanted c.in-Ok.items.items found _ told _ refused.1),
    ))

pub returns-in-Ok-clause-items : goal.returns-in-Ok-clause-items
returns-in-Ok-clause-items c = (
  c.in-Ok.items.items,
  left (terms_of c.args.rules c.args.gaps.now) c.args.stream.now c.in_ok-live.live (rw c.in_ok-told.ensures.terms at c.in_ok-live.ensures.live) c.args.bytes.now c.args.bits c.in-Ok.items.items c.in-Ok.ensures.items,
  rw c.deref.ensures.value at c.in_ok-write_items-in-Ok.ensures.filled,
  rw c.deref.ensures.value at c.in_ok-write_items-in-Ok.ensures.count,
)

pub returns-in-Ok-clause-totals : goal.returns-in-Ok-clause-totals
returns-in-Ok-clause-totals c before heard =
    let is = rw c.in_ok-told.ensures.terms at c.in_ok-live.ensures.live in
    c.totals_in_c.ensures
    ∙ ap totals_in_c (subst (λ (l : LiveOf). (before : List ℕ) → HasHeard l before → c.in-Ok.found ≡ totals_of (report_at l.terms (before ++ c.args.bytes.now) (8 * length before + c.args.bits))) is
    c.in-Ok.ensures.totals before heard)
