use Rattle.rds_tool.proofs.Names.{◌≡◌, ◌∙◌, Bool, Ok, ap, false, inr, sym, subst, true, AreGaps, IsMemoryOrErrOf, BadGaps}
use Rattle.rds_tool.proofs.HeldSymbols.{refused-gaps, text-made}
use Rattle.rds_tool.specs.{Inside.HeldSymbols.HeldOf, Inside.HeldSymbols.text_of_held, Inside.Texts.bytes_of}
use Rattle.rds_tool.proofs.held_symbols.HeldSymbolsTaker.finish.Goals as goal

no_more : (b : Bool) → b ≡ false → b ≡ true → ⊥
no_more b p q = let bad : false ≡ true = sym p ∙ q in cc bad

pub returns-then-not-may_end-clause-refused : goal.returns-then-not-may_end-clause-refused
returns-then-not-may_end-clause-refused g c =
    let s = c.self.inside in
    let ok = c.in_ok-check_symbols.ensures.ok in
    subst (λ (held : HeldOf). IsMemoryOrErrOf (text_of_held held.terms held.symbols) BadGaps) c.self.view_is
    (inr (refused-gaps s.stream s.bits s.has_rows s.items s.count s.symbols.bytes c.self.invariant ok.0 ok.1
    (λ are. no_more c.may_end.result c.if-not-may_end.true (c.may_end.ensures.1 are))))

pub returns-clause-ok : goal.returns-clause-ok
returns-clause-ok g c =
    let s = c.self.inside in
    let ok = c.in_ok-check_symbols.ensures.ok in
    let end = c.in_ok-end.end in
    subst (λ (held : HeldOf). text_of_held held.terms held.symbols ≡ Ok (bytes_of c.in_ok-text_of_end.field-0)) c.self.view_is
    (text-made s.stream s.bits s.has_rows s.items s.count s.symbols.bytes c.self.invariant ok.0 ok.1 (c.may_end.ensures.0 c.if-not-may_end.false)
    end.totals c.in_ok-end.ensures.totals end.group c.in_ok-end.ensures.group ∙ ap (λ t. Ok t) (sym c.in_ok-text_of_end.ensures))
