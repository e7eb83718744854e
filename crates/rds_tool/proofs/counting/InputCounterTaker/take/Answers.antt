use Rattle.rds_tool.proofs.Names.{◌≡◌, ◌++◌, ◌∙◌, Bool, List, ap, false, subst, sym, take, true, ℕ, CounterOf, InputCounterOf, IsTextOf}
use Rattle.rds_tool.specs.Inside.Counters.{text_of_counted}
use Rattle.rds_tool.proofs.HexDigits.{decoded_on}
use Rattle.rds_tool.proofs.counting.InputCounterTaker.take.Goals as goal

pub invariant_of-self-in-Ok : goal.invariant_of-self-in-Ok
invariant_of-self-in-Ok g c =
    let s = c.self.inside in
    let part = c.args.bytes.now in
    let next = take c.in-Ok.count c.decode_digits.new.text in
    let half = c.in-Ok.half in
    let was = subst (λ (strange : Bool). IsTextOf true s.half strange s.text.bytes s.counter.bytes) c.if-self.false
    (subst (λ (hex : Bool). IsTextOf hex s.half s.strange s.text.bytes s.counter.bytes) c.if-not-self.false c.self.invariant) in
    let heard : c.hear-in-Ok.new.self.bytes ≡ s.counter.bytes ++ next = ap (λ (k : CounterOf). k.bytes) c.hear-in-Ok.ensures in
    let is : IsTextOf true half false (s.text.bytes ++ part) (s.counter.bytes ++ next) =
    (c.in-Ok.ensures.ok.1, decoded_on s.text.bytes part s.counter.bytes s.half was.1 next half c.in-Ok.ensures.ok.2) in
    subst (λ (hex : Bool). IsTextOf hex half s.strange c.note.new.self.bytes c.hear-in-Ok.new.self.bytes) (sym c.if-not-self.false)
    (subst (λ (strange : Bool). IsTextOf true half strange c.note.new.self.bytes c.hear-in-Ok.new.self.bytes) (sym c.if-self.false)
    (subst (λ (xs : List ℕ). IsTextOf true half false xs c.hear-in-Ok.new.self.bytes) (sym c.note.ensures)
    (subst (λ (xs : List ℕ). IsTextOf true half false (s.text.bytes ++ part) xs) (sym heard) is)))

-- the text does not depend on the bytes that were counted
same : (hex : Bool) (k k' : CounterOf) (bytes : List ℕ) → k' ≡ record k { bytes = bytes }
    → text_of_counted (record { hex = hex; bits = k'.bits; gaps = k'.terms.gaps }) k'.terms.rules ≡ text_of_counted (record { hex = hex; bits = k.bits; gaps = k.terms.gaps }) k.terms.rules
same hex k k' bytes is = ap (λ (c : CounterOf). text_of_counted (record { hex = hex; bits = c.bits; gaps = c.terms.gaps }) c.terms.rules) is

pub returns-in-Ok-clause-text : goal.returns-in-Ok-clause-text
returns-in-Ok-clause-text g c =
    same c.self.inside.hex c.self.inside.counter _ _ c.hear-in-Ok.ensures ∙ ap (λ (k : InputCounterOf). text_of_counted k.input k.rules) c.self.view_is

pub returns-then-not-self-clause-text : goal.returns-then-not-self-clause-text
returns-then-not-self-clause-text g c =
    same c.self.inside.hex c.self.inside.counter _ _ c.hear.ensures ∙ ap (λ (k : InputCounterOf). text_of_counted k.input k.rules) c.self.view_is

pub returns-then-self-clause-text : goal.returns-then-self-clause-text
returns-then-self-clause-text g c = ap (λ (k : InputCounterOf). text_of_counted k.input k.rules) c.self.view_is

pub returns-in-Err-clause-text : goal.returns-in-Err-clause-text
returns-in-Err-clause-text g c = ap (λ (k : InputCounterOf). text_of_counted k.input k.rules) c.self.view_is
