use Rattle.rds_pieces.proofs.Names.{common_steps, ◌≡◌, ℕ, ◌++◌, ◌∷◌, [], List, ◌*◌, ◌∙◌, sym, ap, arith, map-range_with_len_more, even_places}
use Rattle.rds_pieces.proofs.{CuttingLemmas.even_is_cutting, CuttingLemmas.is_own_cutting, CuttingLemmas.multiple_inside, cutting.Cutting.even.Goals.then-len-eq0, cutting.Cutting.even.Goals.else-len-eq0}
use Rattle.rds_pieces.proofs.cutting.Cutting.even.Goals as goal

pub overflow_mul-piece : goal.overflow_mul-piece
overflow_mul-piece c = grind (arith, common_steps, multiple_inside)

pub loop-piece-preserved : goal.loop-piece-preserved
loop-piece-preserved c = c.in_ok-push.ensures.items ∙ ap (λ (xs : List ℕ). xs ++ c.loop-piece.piece * c.div_ceil-bits.result ∷ []) c.loop-piece.invariant
    ∙ sym (map-range_with_len_more (λ k. k * c.div_ceil-bits.result) 0 c.loop-piece.piece c.loop-piece.piece (omega arith))

whole : (c : goal.In_ok-push-2) → c.push-2.new.self.items ≡ even_places c.args.len c.args.pieces
whole c = grind (arith, common_steps, then-len-eq0)

pub invariant_of-result : goal.invariant_of-result
invariant_of-result c = is_own_cutting c.args.len _ (rw (whole c) (even_is_cutting c.args.len c.args.pieces c.requires))

pub returns-clause-ok : goal.returns-clause-ok
returns-clause-ok c = whole c

pub returns-clause-cutting : goal.returns-clause-cutting
returns-clause-cutting c = rw (whole c) (even_is_cutting c.args.len c.args.pieces c.requires)
