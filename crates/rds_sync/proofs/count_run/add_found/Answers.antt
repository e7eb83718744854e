use Rattle.rds_sync.proofs.Lemmas.{◌≡◌, ℕ, List, ◌∷◌, true, sym, ap, ◌∙◌, Item, Acquired, has_number, group, CountOf, joined, group_count, acquired_count, added, blocks_in, completed_group, group-added, acquired-number, items-acquiring, last-alone}
use Rattle.rds_sync.proofs.count_run.add_found.Goals as goal

pub returns-then-get-eq4-clause-given : goal.returns-then-get-eq4-clause-given
returns-then-get-eq4-clause-given c = λ b rules e.
    let old = c.args.counts.now in
    let place = c.args.place in
    let number = c.args.number in
    let four : number ≡ 4 = sym c.get.ensures.value ∙ c.if-get-eq4.true in
    let there : has_number b place 4 ≡ true = ap (λ (n : ℕ). has_number b place n) (sym four) ∙ acquired-number b rules place number e in
    c.add_group.ensures
    ∙ ap (λ (k : CountOf). joined k (group_count (blocks_in 4096))) c.add_acquired.ensures
    ∙ group-added (joined old acquired_count) (group b rules 4 4 place) (blocks_in 4096) (sym (last-alone b rules place c.requires.late there))
    ∙ ap (λ (n : ℕ). added old (Acquired place n ∷ completed_group b rules n n place)) (sym four)
    ∙ ap (λ (is : List Item). added old is) (sym (items-acquiring b rules place number e))
