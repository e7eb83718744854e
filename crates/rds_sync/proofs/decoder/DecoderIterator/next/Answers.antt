use Rattle.rds_sync.proofs.Lemmas.{◌≡◌, [], ◌∷◌, length, get_or, Option, ap, subst, sym, ◌∙◌, rules, Item, GivesNext, left_of, gives-first, gives-second, goes-on, two_slots, none_ready}
use Rattle.rds_sync.proofs.decoder.DecoderIterator.next.Goals as goal

pub returns-in-Some-first-clause-steps : goal.returns-in-Some-first-clause-steps
returns-in-Some-first-clause-steps c =
    let d = c.self.inside in
    let step = c.stretch-step in
    let second = c.index-step-1.result in
    let none = none_ready d.ready c.in_default.not-Some in
    let two : length step.result.items ≡ 2 = search rules in
    let slots = two_slots step.result.items c.index-step-0.result second two in
    gives-first d.reader d.rules.now d.state d.place d.to step.result step.ensures.reached c.args.self.now
    (sym c.self.view_is ∙ ap (λ (ready : Option Item). left_of d.reader d.rules.now ready d.state d.place d.to) none)
    step.new.reader step.ensures.same (get_or step.result.items 1 second) c.in-Some-first.item
    (slots ∙ ap (λ (first : Option Item). first ∷ get_or step.result.items 1 second ∷ []) c.in-Some-first.is)

pub returns-in-Some-first-clause-goes : goal.returns-in-Some-first-clause-goes
returns-in-Some-first-clause-goes c = goes-on _ _ _ (returns-in-Some-first-clause-steps c)

pub returns-in-None-clause-steps : goal.returns-in-None-clause-steps
returns-in-None-clause-steps c =
    let d = c.self.inside in
    let step = c.stretch-step in
    let second = c.index-step-1.result in
    let none = none_ready d.ready c.in_default.not-Some in
    let two : length step.result.items ≡ 2 = search rules in
    let slots = two_slots step.result.items c.index-step-0.result second two in
    subst (λ (ready : Option Item). GivesNext c.args.self.now (get_or step.result.items 1 second) (left_of step.new.reader d.rules.now ready step.result.state step.result.place d.to))
    (sym none)
    (gives-second d.reader d.rules.now d.state d.place d.to step.result step.ensures.reached c.args.self.now
    (sym c.self.view_is ∙ ap (λ (ready : Option Item). left_of d.reader d.rules.now ready d.state d.place d.to) none)
    step.new.reader step.ensures.same (get_or step.result.items 1 second)
    (slots ∙ ap (λ (first : Option Item). first ∷ get_or step.result.items 1 second ∷ []) c.in-None.is))

pub returns-in-None-clause-goes : goal.returns-in-None-clause-goes
returns-in-None-clause-goes c = goes-on _ _ _ (returns-in-None-clause-steps c)
