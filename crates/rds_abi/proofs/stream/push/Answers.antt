use Rattle.rds_abi.proofs.Shared.{◌∙◌, List, ap, arith, length, map, subst, take, length-take, err_from_is_err_and, completed, Item, IsFilled, gaps_of, stream_in_c, stream_of, terms_of, totals_from_c, RuleNumbers, state_of, item_in_c}
use Rattle.rds_abi.proofs.{Fitting.few-completed, Fitting.roomy, NearStreams.are-completed, NearStreams.heard-next, NearStreams.left-near, NearStreams.pushed-after, NearStreams.pushed-completed, NearStreams.pushed-most, NearStreams.pushed-refused, Streams.refused_push}
use Rattle.rds_abi.proofs.stream.push.Goals as goal

pub returns-clause-after : goal.returns-clause-after
returns-clause-after c =
    let went = c.in_ok-go_on.ensures in
    pushed-after c.args.stream.now c.args.bytes.now c.in_ok-told.ensures.near went.lawful went.fits c.go_on.new.taken c.go_on.new.stream went.after

pub returns-clause-heard : goal.returns-clause-heard
returns-clause-heard c before h =
    let went = c.in_ok-go_on.ensures in
    let all = terms_of c.args.rules c.args.gaps.now in
    heard-next c.next_is_heard.ensures all c.args.stream.now (take c.go_on.new.taken c.args.bytes.now) c.in_ok-told.ensures.given.range
    (left-near c.args.stream.now c.in_ok-told.ensures.near went.lawful) c.go_on.new.stream
    (pushed-after c.args.stream.now c.args.bytes.now c.in_ok-told.ensures.near went.lawful went.fits c.go_on.new.taken c.go_on.new.stream went.after) before h

pub returns-clause-filled : goal.returns-clause-filled
returns-clause-filled c =
    let went = c.in_ok-go_on.ensures in
    let same = pushed-completed c.args.stream.now c.args.bytes.now c.in_ok-told.ensures.near went.lawful went.fits c.go_on.new.taken in
    subst (λ (items : List Item). IsFilled (map item_in_c items) c.args.room.now c.go_on.new.room) same went.filled

pub returns-clause-count : goal.returns-clause-count
returns-clause-count c =
    let went = c.in_ok-go_on.ensures in
    let same = pushed-completed c.args.stream.now c.args.bytes.now c.in_ok-told.ensures.near went.lawful went.fits c.go_on.new.taken in
    went.count ∙ ap (λ (items : List Item). length items) same

pub returns-clause-items : goal.returns-clause-items
returns-clause-items c =
    let went = c.in_ok-go_on.ensures in
    let all = terms_of c.args.rules c.args.gaps.now in
    let more = take c.go_on.new.taken c.args.bytes.now in
    let same = pushed-completed c.args.stream.now c.args.bytes.now c.in_ok-told.ensures.near went.lawful went.fits c.go_on.new.taken in (
      completed (stream_of all c.args.stream.now) more,
      are-completed c.next_is_heard.ensures all c.args.stream.now more c.in_ok-told.ensures.given.range (left-near c.args.stream.now c.in_ok-told.ensures.near went.lawful),
      subst (λ (items : List Item). IsFilled (map item_in_c items) c.args.room.now c.go_on.new.room) same went.filled,
      went.count ∙ ap (λ (items : List Item). length items) same,
    )

pub returns-clause-most : goal.returns-clause-most
returns-clause-most c =
    let went = c.in_ok-go_on.ensures in
    pushed-most c.args.stream.now c.args.bytes.now c.in_ok-told.ensures.near went.lawful went.fits (length c.args.room.now) c.go_on.new.taken went.most

pub returns-clause-few : goal.returns-clause-few
returns-clause-few c =
    let more = take c.go_on.new.taken c.args.bytes.now in
    omega (
      arith,
      c.in_ok-go_on.ensures.count,
      few-completed c.runs_give_few_items.ensures (stream_of c.in_ok-told.told c.args.stream.now) more,
      length-take c.go_on.new.taken c.args.bytes.now,
    )

pub returns-clause-next : goal.returns-clause-next
returns-clause-next c =
    record { given = c.in_ok-told.ensures.given; left = left-near c.go_on.new.stream c.in_ok-told.ensures.near c.in_ok-go_on.ensures.next }

pub returns-clause-lawful : goal.returns-clause-lawful
returns-clause-lawful c =
    let went = c.in_ok-go_on.ensures in (
      record { given = c.in_ok-told.ensures.given; left = left-near c.args.stream.now c.in_ok-told.ensures.near went.lawful },
      went.fits,
    )

pub returns-in_err-go_on-clause-refused : goal.returns-in_err-go_on-clause-refused
returns-in_err-go_on-clause-refused c =
    let p = err_from_is_err_and c.from_residual-in_err-go_on.result c.from_residual-in_err-go_on.ensures.1 in
    let all = terms_of c.args.rules c.args.gaps.now in
    rw (p.1, p.2)
    (refused_push c.args.rules c.args.gaps.now c.args.stream.now c.args.bytes.now c.in_err-go_on.field-0.0 _ _ c.in_ok-told.ensures.given
    (pushed-refused c.args.stream.now c.args.bytes.now c.in_ok-told.ensures.near c.in_err-go_on.field-0.0 (length c.args.room.now) c.go_on.new.count _ c.in_err-go_on.ensures.refused))

pub returns-in_err-go_on-clause-roomy : goal.returns-in_err-go_on-clause-roomy
returns-in_err-go_on-clause-roomy c =
    let p = err_from_is_err_and c.from_residual-in_err-go_on.result c.from_residual-in_err-go_on.ensures.1 in
    rw (p.1, p.2)
    (roomy c.runs_give_few_items.ensures c.in_ok-told.told c.args.stream.now c.args.bytes.now (length c.args.room.now) c.go_on.new.count c.in_err-go_on.field-0.0 _
    c.in_err-go_on.ensures.refused)

pub returns-in_err-go_on-clause-untouched : goal.returns-in_err-go_on-clause-untouched
returns-in_err-go_on-clause-untouched c =
    let p = err_from_is_err_and c.from_residual-in_err-go_on.result c.from_residual-in_err-go_on.ensures.1 in
    rw p.1 c.in_err-go_on.ensures.untouched

pub returns-clause-laid : goal.returns-clause-laid
returns-clause-laid c =
    let near = c.in_ok-told.ensures.near in
    c.in_ok-go_on.ensures.laid
    ∙ ap (λ (r : RuleNumbers). stream_in_c (record { terms = record { rules = r; gaps = gaps_of c.args.gaps.now }; tail = (stream_of c.in_ok-told.told c.go_on.new.stream).tail; place = c.go_on.new.stream.place; state = state_of c.go_on.new.stream.state; totals = totals_from_c c.go_on.new.stream.totals })) near.rules
