use Rattle.rds_stream.proofs.Names.{common_steps, ◌≡◌, ◌+◌, ◌-◌, ◌≤◌, ◌++◌, ◌∷◌, [], ℕ, List, Some, None, sym, ap, ◌∙◌, subst, arith, Offset, Signal, offset_at, valid_windows, WindowsLeft, GivesFirst, NoneValid}
use Rattle.rds_stream.proofs.{WindowLists.valid_over, WindowLists.valid_with, scanning.scan.Invariants.HasScanned}
use Rattle.rds_stream.proofs.scanning.scan.Goals as goal

module _ (b : Signal) (from to : ℕ) (old : WindowsLeft) (items : List (ℕ × Offset)) (has : HasScanned b from to old items) where
  -- up to a place before which no other window is valid
  up_to : (p : ℕ) → old.next ≤ p → NoneValid old.signal old.next p → items ≡ valid_windows b from p
  up_to p low none =
      let end : old.next + (p - old.next) ≡ p = omega arith in
      let here : NoneValid b old.next p = subst (λ (bits : Signal). NoneValid bits old.next p) has.bits none in
      has.so_far ∙ sym (valid_over b from old.next (p - old.next) has.from_on (λ j l h. here j l (omega arith))) ∙ ap (valid_windows b from) end

  one_more : (found : ℕ × Offset) (new : WindowsLeft) → GivesFirst old (Some found) new → HasScanned b from to new (items ++ found ∷ [])
  one_more found new gives =
      subst (λ (left : WindowsLeft). HasScanned b from to left (items ++ found ∷ [])) (sym gives.4) (record {
        bits = has.bits;
        end = has.end;
        from_on = omega (arith, has.from_on, gives.0);
        limit = omega (arith, gives.1, has.end);
        so_far = ap (λ xs. xs ++ found ∷ []) (up_to found.0 gives.0 gives.2)
            ∙ valid_with b from found.0 found.1 (omega (arith, has.from_on, gives.0)) (subst (λ (bits : Signal). offset_at bits found.0 ≡ Some found.1) has.bits gives.3);
      })

  all : (new : WindowsLeft) → GivesFirst old None new → items ≡ valid_windows b from to
  all new gives = up_to old.end (omega (arith, has.limit, has.end)) gives.0 ∙ ap (valid_windows b from) has.end

pub loop-window-preserved : goal.loop-window-preserved
loop-window-preserved c = grind (arith, common_steps, one_more)

pub returns-clause-found : goal.returns-clause-found
returns-clause-found c =
    all c.args.recording.now c.args.from c.args.to c.loop-window.window-iterator c.loop-window.found.items c.loop-window.invariant.2 c.next.new.self c.in-None.ensures.steps
