-- Which refusals the job and the bytes decide, and which they don't.
use Rattle.std.{specs.Prelude.◌≡◌, specs.Prelude.Bool, specs.Prelude.false, specs.Prelude.refl, specs.Prelude.true, proofs.Common.ap, proofs.Common.inl, proofs.Common.inr, proofs.lemmas.Bool.false≢true}
use Rattle.rds_code.specs.declared.error.RdsError.{RdsError, TheVariants.BadCutting, TheVariants.BadGaps, TheVariants.BitsPastBytes, TheVariants.BurstRange, TheVariants.CrewRange, TheVariants.GroupText, TheVariants.HexText, TheVariants.LossRange, TheVariants.NoWorker, TheVariants.OutOfMemory, TheVariants.ReachRange, TheVariants.Read, TheVariants.ShareRange, TheVariants.TooLong, TheVariants.TooManyTurns, TheVariants.Write}
use Rattle.rds_tool.specs.Outcome.{IsOutside}

-- memory and the devices
abbrev pub comes_from_outside : RdsError → Bool
comes_from_outside OutOfMemory = true
comes_from_outside Read = true
comes_from_outside Write = true
comes_from_outside TooManyTurns = true
comes_from_outside other = false

pub outside : (e : RdsError) → IsOutside e → comes_from_outside e ≡ true
outside e (inl is) = ap comes_from_outside is
outside e (inr (inl is)) = ap comes_from_outside is
outside e (inr (inr (inl is))) = ap comes_from_outside is
outside e (inr (inr (inr is))) = ap comes_from_outside is

-- none of these is decided outside
abbrev pub IsDecided : RdsError → Type 0
IsDecided e = IsOutside e → ⊥

pub decided : IsDecided BurstRange × IsDecided ReachRange × IsDecided LossRange × IsDecided BitsPastBytes
    × IsDecided TooLong × IsDecided BadCutting
    × IsDecided CrewRange × IsDecided HexText × IsDecided GroupText × IsDecided ShareRange × IsDecided BadGaps
    × IsDecided NoWorker
decided = (
  (λ is. false≢true (outside BurstRange is)),
  (λ is. false≢true (outside ReachRange is)),
  (λ is. false≢true (outside LossRange is)),
  (λ is. false≢true (outside BitsPastBytes is)),
  (λ is. false≢true (outside TooLong is)),
  (λ is. false≢true (outside BadCutting is)),
  (λ is. false≢true (outside CrewRange is)),
  (λ is. false≢true (outside HexText is)),
  (λ is. false≢true (outside GroupText is)),
  (λ is. false≢true (outside ShareRange is)),
  (λ is. false≢true (outside BadGaps is)),
  (λ is. false≢true (outside NoWorker is)),
)

pub undecided : IsOutside OutOfMemory × IsOutside Read × IsOutside Write × IsOutside TooManyTurns
undecided = (inl refl, inr (inl refl), inr (inr (inl refl)), inr (inr (inr refl)))
