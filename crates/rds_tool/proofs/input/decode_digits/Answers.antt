use Rattle.rds_tool.proofs.Names.{common_steps}
use Rattle.rds_tool.proofs.{HexDigits.HasDecoded, HexDigits.all_decoded, HexDigits.begun, HexDigits.decoded_none, HexDigits.ended, HexDigits.few_decoded, input.decode_digits.Goals.in-None, input.decode_digits.Goals.in-Some-high}
use Rattle.std.proofs.Common.{◌≡◌, ◌∙◌, List, Option, arith, ℕ, sym}
use Rattle.rds_tool.proofs.input.decode_digits.Goals as goal

moved : (start : Option ℕ) (text now now' : List ℕ) (at count count' : ℕ) (high high' : Option ℕ) → now' ≡ now → count' ≡ count → high' ≡ high
    → HasDecoded start text now at count high → HasDecoded start text now' at count' high'
moved start text now now' at count count' high high' p q r h = rw (p, q, r) h

pub loop-at-init : goal.loop-at-init
loop-at-init c = decoded_none c.args.half c.args.text.now c.requires

pub loop-at-preserved : goal.loop-at-preserved
loop-at-preserved c =
    let blank = sym c.is_blank.ensures ∙ c.if-is_blank.false in
    let some = sym c.digit_value.ensures.value ∙ c.in-Some.is in
    elim c.match-high.branch [
      | in-None w ↦ moved _ _ _ _ _ _ _ _ _ w.text-is w.count-is w.high-is (begun _ _ _ _ _ _ c.loop-at.invariant (omega arith) c.in-Some.digit w.in-None.is blank some c.in-Some.ensures.small)
      | in-Some-high w ↦ moved _ _ _ _ _ _ _ _ _ w.text-is w.count-is w.high-is (ended _ _ _ _ _ _ c.loop-at.invariant (omega arith) w.in-Some-high.first c.in-Some.digit w.in-Some-high.is blank some)
    ]

pub returns-clause-ok : goal.returns-clause-ok
returns-clause-ok c = grind (arith, common_steps, few_decoded, all_decoded)
