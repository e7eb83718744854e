use Rattle.std.proofs.Common.{◌≡◌, ◌-◌, ◌++◌, ◌∷◌, ◌∙◌, ℕ, List, [], ap, drop, map, refl, sym, take}
use Rattle.std.specs.List.{concat}
use Rattle.std.proofs.lemmas.List.{drop-map, take-map}
use Rattle.rds_tests.proofs.rows.BytesRows.fill.Goals as goal

-- rows of a byte each are their bytes
joined : (bytes : List ℕ) → concat (map (λ byte. byte ∷ []) bytes) ≡ bytes
joined [] = refl
joined (byte ∷ bytes) = ap (λ rest. byte ∷ rest) (joined bytes)

some : (n from : ℕ) (bytes : List ℕ) → concat (take n (drop from (map (λ byte. byte ∷ []) bytes))) ≡ take n (drop from bytes)
some n from bytes =
    ap (λ rows. concat (take n rows)) (drop-map (λ byte. byte ∷ []) from bytes)
    ∙ ap concat (take-map (λ byte. byte ∷ []) n (drop from bytes))
    ∙ joined (take n (drop from bytes))

pub returns-clause-rows : goal.returns-clause-rows
returns-clause-rows c =
    c.push_all.ensures.text
    ∙ ap (λ bytes. c.args.sheet.now.text.items ++ take (c.args.to - c.args.from) (drop c.args.from bytes)) c.as_slice-bytes.ensures.value
    ∙ ap (λ rest. c.args.sheet.now.text.items ++ rest) (sym (some (c.args.to - c.args.from) c.args.from c.args.self.now.bytes.items))
