use Rattle.rds_sync.proofs.Lemmas.{common_steps, arith, ◌≡◌, ◌≤◌, ℕ, Bool, true, false, Option, Some, None, ap, ◌∙◌, list_any, range_with_len, Offset, number, Signal, heard, offset_heard, offset_at, RuleNumbers, acquired, has_partner, off-heard, acquired-offset}
use Rattle.rds_sync.proofs.acquiring.acquire.{Given.Over, Goals.After-has_partner}
use Rattle.rds_sync.proofs.acquiring.acquire.Goals as goal

-- the offset of the place, by the window heard there
offset_is : (b : Signal) (place : ℕ) (h : Option ℕ) (read answer : Option Offset)
    → 25 ≤ place → h ≡ heard b place → read ≡ offset_heard h → read ≡ answer → offset_at b place ≡ answer
offset_is b place h read answer late heard_is read_is is = grind (arith, common_steps, off-heard, offset_heard)

-- whether the place acquires, by whether there is a partner
answer : (b later : Signal) (rules : RuleNumbers) (place n : ℕ) (o : Offset) (found is_found : Bool) → offset_at b place ≡ Some o → n ≡ number o
    → later ≡ b → found ≡ list_any (has_partner later place n) (range_with_len 1 rules.reach) → found ≡ is_found
    → elim is_found as (λ _. Option ℕ) [ true ↦ Some n | false ↦ None ] ≡ acquired b rules place
answer b later rules place n o found is_found here number_is later_is any_is found_is = grind (arith, common_steps, acquired-offset, list_any, has_partner, range_with_len, offset_at, number, acquired, acquired-offset b rules place n o found is_found here number_is (any_is ∙ ap (λ (signal : Signal). list_any (has_partner signal place n) (range_with_len 1 rules.reach)) later_is) found_is)

module _ (g : Over) (c : After-has_partner g) where
  told : (is_found : Bool) → c.has_partner.result ≡ is_found
      → elim is_found as (λ _. Option ℕ) [ true ↦ Some c.number-number.result | false ↦ None ] ≡ acquired (g.T.Tape.signal c.args.tape.now) c.args.rules.now c.args.place
  told is_found found = answer (g.T.Tape.signal c.args.tape.now) (g.T.Tape.signal c.window-heard.new.self) c.args.rules.now c.args.place c.number-number.result c.in-Some.offset c.has_partner.result is_found
      (offset_is (g.T.Tape.signal c.args.tape.now) c.args.place c.window-heard.result c.offset_heard.result (Some c.in-Some.offset) c.if-place-lt-FIRST_WINDOW.false c.window-heard.ensures.value c.offset_heard.ensures c.in-Some.is)
      c.number-number.ensures c.window-heard.ensures.same c.has_partner.ensures.value found

pub returns-then-has_partner-clause-number : goal.returns-then-has_partner-clause-number
returns-then-has_partner-clause-number g c = told g (goal.at.returns-then-has_partner-clause-number g c).After-has_partner true c.if-has_partner.true

pub returns-else-has_partner-clause-number : goal.returns-else-has_partner-clause-number
returns-else-has_partner-clause-number g c = told g (goal.at.returns-else-has_partner-clause-number g c).After-has_partner false c.if-has_partner.false
