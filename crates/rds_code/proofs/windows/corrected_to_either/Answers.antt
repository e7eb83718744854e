use Rattle.rds_code.proofs.Names.{common_steps, arith, ◌≡◌, ℕ, List, [], ◌∷◌, ◌++◌, ◌∙◌, Option, Some, None, map, ap, sym, subst, Offset, C, Cx, by_only, corrections}
use Rattle.rds_code.proofs.{ReadingLemmas.asked-lt, ReadingLemmas.TableSays, ReadingLemmas.table_says, ReadingLemmas.corrections_two, ReadingLemmas.fitting, windows.corrected_to_either.Goals.After-find-version_b}
use Rattle.rds_code.proofs.windows.corrected_to_either.Goals as goal

pub find-version_a-requires : goal.find-version_a-requires
find-version_a-requires c = asked-lt c.args.w c.args.remainder c.word.result C c.requires.block c.requires.of_window c.word.ensures

pub find-version_b-requires : goal.find-version_b-requires
find-version_b-requires c = asked-lt c.args.w c.args.remainder c.word-2.result Cx c.requires.block c.requires.of_window c.word-2.ensures

-- the one burst that the table tells, if any
abbrev told : Option ℕ → List ℕ
told None = []
told (Some e) = e ∷ []

listed : (limit w : ℕ) (o : Offset) (found : Option ℕ) → TableSays limit w o found → fitting limit w o ≡ told found
listed limit w o found says = grind (arith, common_steps, fitting)

-- the pairs that correct the window, by the table's two answers
both : (c : After-find-version_b) (a b : Option ℕ) → c.find-version_a.result ≡ a → c.find-version_b.result ≡ b
    → by_only c.args.w (map {B = Offset × ℕ} (λ e. (C, e)) (told a) ++ (map {B = Offset × ℕ} (λ e. (Cx, e)) (told b) ++ [])) ≡ by_only c.args.w (corrections (C ∷ Cx ∷ []) c.args.limit c.args.w)
both c a b is_a is_b =
    let limit = c.args.limit in
    let w = c.args.w in
    let says_a = table_says limit w c.args.remainder c.word.result C c.find-version_a.result c.find-version_a.ensures.limit c.requires.of_window c.word.ensures c.find-version_a.ensures.burst c.find-version_a.ensures.fits c.find-version_a.ensures.none in
    let says_b = table_says limit w c.args.remainder c.word-2.result Cx c.find-version_b.result c.find-version_b.ensures.limit c.requires.of_window c.word-2.ensures c.find-version_b.ensures.burst c.find-version_b.ensures.fits c.find-version_b.ensures.none in
    sym (ap (by_only w) (corrections_two limit w C Cx (told a) (told b) (listed limit w C a (subst (TableSays limit w C) is_a says_a)) (listed limit w Cx b (subst (TableSays limit w Cx) is_b says_b))))

pub returns-in-Some-None : goal.returns-in-Some-None
returns-in-Some-None c = c.without.ensures ∙ both (goal.at.returns-in-Some-None c).After-find-version_b (Some c.in-Some-None.burst) None c.in-Some-None.is-0 c.in-Some-None.is-1

pub returns-in-None-Some : goal.returns-in-None-Some
returns-in-None-Some c = c.without-in-None-Some.ensures ∙ both (goal.at.returns-in-None-Some c).After-find-version_b None (Some c.in-None-Some.burst) c.in-None-Some.is-0 c.in-None-Some.is-1

pub returns-in-None-None : goal.returns-in-None-None
returns-in-None-None c = both (goal.at.returns-in-None-None c).After-find-version_b None None c.in-None-None.is-0 c.in-None-None.is-1

pub returns-in-Some-Some : goal.returns-in-Some-Some
returns-in-Some-Some c = both (goal.at.returns-in-Some-Some c).After-find-version_b (Some _) (Some _) c.in-Some-Some.is-0 c.in-Some-Some.is-1
