use Rattle.rds_pieces.proofs.Names.{◌≡◌, ap, ◌∙◌, arith, Searching, IsRest, listed, TallyOf, tally_at, gone_on, totals_of, MeetFirstAt, RunOf}
use Rattle.rds_pieces.proofs.{SewnLemmas.later, SewnLemmas.sewn_list, SewnLemmas.sewn_rest, SewnLemmas.sewn_fit, SewnLemmas.sewn_totals, SewnLemmas.sewn_end, seaming.sewn.Goals.After-totals}
use Rattle.rds_pieces.proofs.seaming.sewn.Goals as goal

pub returns-in-None-clause-totals : goal.returns-in-None-clause-totals
returns-in-None-clause-totals c = let own = rw c.in-None.is at c.requires.own in c.in_ok-report.ensures.totals ∙ ap (λ (t : TallyOf). totals_of t.list) own

-- they met
module _ (c : After-totals) where
  abbrev r : RunOf
  r = c.args.run.now

  met : MeetFirstAt r.source r.rules c.args.state Searching r.from r.to c.in-Some._place
  met = rw c.in-Some.is at c.requires.met

  own : c.args.beside.own ≡ gone_on (tally_at r.source r.rules r.from c.args.state) c.in-Some._place
  own = rw c.in-Some.is at c.requires.own

  guess : c.args.beside.guess ≡ gone_on (tally_at r.source r.rules r.from Searching) c.in-Some._place
  guess = rw c.in-Some.is at c.requires.guess

  rest : IsRest c.in_ok-before-in-Some.before.totals c.totals.result (totals_of (later c.run_laws.ensures met).1)
  rest = sewn_rest c.run_laws.ensures met c.totals.ensures (c.in_ok-before-in-Some.ensures.totals ∙ ap (λ (t : TallyOf). totals_of t.list) guess)

pub less-rest-requires : goal.less-rest-requires
less-rest-requires c = let a = (goal.at.less-rest-requires c).After-totals in (totals_of (later c.run_laws.ensures (met a)).1, rest a)

pub plus-totals-requires : goal.plus-totals-requires
plus-totals-requires c =
    let a = (goal.at.plus-totals-requires c).After-totals in
    let mine = c.in_ok-report.ensures.totals ∙ ap (λ (t : TallyOf). totals_of t.list) (own a) in
    sewn_fit c.run_laws.ensures (met a) c.range.ensures.rules.burst (omega (arith, c.range.ensures.inside, c.range.ensures.few)) mine (c.less-rest.ensures.value _ (rest a))

pub returns-in_ok-append_from-in-Some-clause-items : goal.returns-in_ok-append_from-in-Some-clause-items
returns-in_ok-append_from-in-Some-clause-items c =
    let a = (goal.at.returns-in_ok-append_from-in-Some-clause-items c).After-totals in
    let mine = c.in_ok-report.ensures.items ∙ ap (λ (t : TallyOf). listed t.source t.rules t.list) (own a) in
    let before = c.in_ok-before-in-Some.ensures.items ∙ ap (λ (t : TallyOf). listed t.source t.rules t.list) (guess a) in
    sewn_list c.run_laws.ensures (met a) mine c.list.ensures before c.len.ensures c.in_ok-append_from-in-Some.ensures.ok

pub returns-in_ok-append_from-in-Some-clause-totals : goal.returns-in_ok-append_from-in-Some-clause-totals
returns-in_ok-append_from-in-Some-clause-totals c =
    let a = (goal.at.returns-in_ok-append_from-in-Some-clause-totals c).After-totals in
    let mine = c.in_ok-report.ensures.totals ∙ ap (λ (t : TallyOf). totals_of t.list) (own a) in
    c.plus-totals.ensures.value ∙ sewn_totals c.run_laws.ensures (met a) mine (c.less-rest.ensures.value _ (rest a))

pub returns-in_ok-append_from-in-Some-clause-end : goal.returns-in_ok-append_from-in-Some-clause-end
returns-in_ok-append_from-in-Some-clause-end c =
    c.end_state.ensures ∙ sewn_end c.run_laws.ensures (met (goal.at.returns-in_ok-append_from-in-Some-clause-end c).After-totals)
