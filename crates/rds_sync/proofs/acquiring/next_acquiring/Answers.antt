use Rattle.rds_sync.proofs.Lemmas.{common_steps, ◌≡◌, ◌+◌, ℕ, Bool, true, false, Option, Some, None, ap, ap₂, sym, subst, ◌∙◌, arith, list_any, range_with_len, cases_lt, Offset, Signal, offset_at, WindowsLeft, GivesFirst, NoneValid, NoneAcquires, acquired, has_partner, RuleNumbers, acquired-none, acquired-offset}
use Rattle.rds_sync.proofs.acquiring.next_acquiring.{Invariants.HasSearched, Goals.After-has_partner_in}
use Rattle.rds_sync.proofs.acquiring.next_acquiring.Goals as goal

module _ (rules : RuleNumbers) (old left : WindowsLeft) (searched : HasSearched rules old left) where
  -- no place acquires up to one before which no window is valid
  none_before : (p : ℕ) → NoneValid left.signal left.next p → NoneAcquires old.signal rules old.next p
  none_before p none j low high = grind (arith, common_steps, cases_lt, acquired-none, offset_at)

  -- the window that is given next does not acquire
  one_more : (found : ℕ × Offset) (new : WindowsLeft) → GivesFirst left (Some found) new → acquired old.signal rules found.0 ≡ None → HasSearched rules old new
  one_more found new gives this = grind (arith, common_steps, cases_lt, none_before, acquired)

-- whether the valid window that was given acquires
acquires : (c : After-has_partner_in) (answer : Bool) → c.has_partner_in.result ≡ answer
    → acquired c.args.windows.now.signal c.args.rules.now c.in-Some.here ≡ elim answer as (λ _. Option ℕ) [ true ↦ Some c.number.result | false ↦ None ]
acquires c answer told = acquired-offset c.args.windows.now.signal c.args.rules.now c.in-Some.here c.number.result c.in-Some.offset c.has_partner_in.result answer
    (subst (λ (bits : Signal). offset_at bits c.in-Some.here ≡ Some c.in-Some.offset) c.loop-here.invariant.2.signal c.in-Some.ensures.steps.3) c.number.ensures
    (c.has_partner_in.ensures ∙ ap (λ (signal : Signal). list_any (has_partner signal c.in-Some.here c.number.result) (range_with_len 1 c.args.rules.now.reach)) (sym c.requires.source)) told

pub loop-here-preserved : goal.loop-here-preserved
loop-here-preserved c =
    let after = (goal.at.loop-here-preserved c).After-has_partner_in in
    (tt, tt, one_more _ _ _ c.loop-here.invariant.2 (c.in-Some.here, c.in-Some.offset) c.next.new.self c.in-Some.ensures.steps (acquires after false c.if-has_partner_in.false))

pub returns-then-has_partner_in : goal.returns-then-has_partner_in
returns-then-has_partner_in c =
    let given = c.in-Some.ensures.steps in
    let searched = c.loop-here.invariant.2 in (
      omega (arith, given.0, searched.from_on),
      omega (arith, given.1, searched.end),
      none_before _ _ _ searched c.in-Some.here given.2,
      acquires (goal.at.returns-then-has_partner_in c).After-has_partner_in true c.if-has_partner_in.true ∙ ap (λ (n : ℕ). Some n) c.number.ensures,
      given.4 ∙ ap₂ (λ (s : Signal) (e : ℕ). record { signal = s; next = c.in-Some.here + 1; end = e }) searched.signal searched.end,
    )

pub returns : goal.returns
returns c =
    let searched = c.loop-here.invariant.2 in
    subst (λ (end : ℕ). NoneAcquires c.args.windows.now.signal c.args.rules.now c.args.windows.now.next end) searched.end (none_before _ _ _ searched c.loop-here.windows.end c.in_default.ensures.steps.0)
