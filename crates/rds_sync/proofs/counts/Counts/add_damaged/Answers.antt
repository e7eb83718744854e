use Rattle.rds_sync.proofs.Lemmas.{◌≡◌, ◌%◌, ◌/◌, [], ◌∷◌, ap, ◌∙◌, arith, if◌then◌else◌, list_all, CountOf, joined, group_count, has_info, outcome_at, are-more, counted-group}
use Rattle.rds_sync.proofs.counts.Counts.add_damaged.Goals as goal

pub invariant_of-self : goal.invariant_of-self
invariant_of-self c =
    let inside = c.self.inside in
    let w = c.args.word in
    let o = outcome_at (w % 16) in
    let p = outcome_at (w / 16 % 16) in
    let q = outcome_at (w / 256 % 16) in
    let r = outcome_at (w / 4096) in
    let few = c.lanes_of_word.ensures.few in
    let inv = c.self.invariant in (
      are-more inside.blocks inside.groups c.lanes_of_word.result o p q r inv.0 (omega (arith, c.requires, ap (λ (k : CountOf). k.items) c.self.view_is)) (omega (arith, c.lanes_of_word.ensures.value))
          (few 0 o (omega arith)) (few 1 o (omega arith)) (few 2 o (omega arith)) (few 3 o (omega arith)),
      grind arith,
      omega (arith, c.requires, ap (λ (k : CountOf). k.items) c.self.view_is),
    )

pub returns : goal.returns
returns c =
    let inside = c.self.inside in
    let w = c.args.word in
    let o = outcome_at (w % 16) in
    let p = outcome_at (w / 16 % 16) in
    let q = outcome_at (w / 256 % 16) in
    let r = outcome_at (w / 4096) in
    let few = c.lanes_of_word.ensures.few in
    let inv = c.self.invariant in
    let all : c.from.result ≡ (if list_all has_info (o ∷ p ∷ q ∷ r ∷ []) then 1 else 0) = grind arith in
    counted-group inside.blocks inside.groups c.lanes_of_word.result o p q r inv.0 (omega (arith, c.requires, ap (λ (k : CountOf). k.items) c.self.view_is)) (omega (arith, c.lanes_of_word.ensures.value))
    (few 0 o (omega arith)) (few 1 o (omega arith)) (few 2 o (omega arith)) (few 3 o (omega arith)) inside.clean inside.complete inside.acquired inside.losses c.from.result all
    ∙ ap (λ (k : CountOf). joined k (group_count (o ∷ p ∷ q ∷ r ∷ []))) c.self.view_is
