-- The refusals of a call exclude each other, except lack of memory. The law `reasons_exclude_each_other` cites it. This project's rules.
use Rattle.std.specs.Prelude.{◌≡◌, ℕ, ◌^◌, ◌≤◌, ◌⊎◌, List}
use Rattle.rds_abi.specs.{Asked.Asked, Asked.IsLawful, Asked.Refuses, Blocks.RefusesCorrection, Stream.AreLast, Stream.IsFollowed, Stream.RefusesEnd, Stream.RefusesFollowed, Stream.RefusesPush, Stream.place_after, Soft.IsPushed, Soft.RefusesSoft, Ranges.IsRun, Ranges.RefusesRun, Names.RefusesName, declared.layout.RdsGap.RdsGap, declared.layout.RdsRules.RdsRules, declared.layout.RdsSoft.RdsSoft, declared.layout.RdsState.RdsState, declared.layout.RdsStream.RdsStream, declared.refusal.Refusal.Refusal, declared.refusal.Refusal.TheVariants.OutOfMemory, declared.refusal.Refusal.TheVariants.SmallRoom}

-- two refusals whose reasons hold at once are one, or memory was refused
abbrev pub Exclude : (Refusal → Type 0) → Type 0
Exclude Reasons =
    (one other : Refusal) → Reasons one → Reasons other → (one ≡ OutOfMemory) ⊎ (other ≡ OutOfMemory) ⊎ (one ≡ other)

-- the reasons of a call that has room for items: too little room refuses only what is lawful
abbrev pub WithRoom : Type 0 → (Refusal → Type 0) → Refusal → Type 0
WithRoom Lawful Reasons refusal = (Lawful × (refusal ≡ SmallRoom)) ⊎ Reasons refusal

-- the calls
pub record ReasonsExclude : Type 0 where
  pub whole : (a : Asked) → Exclude (WithRoom (IsLawful a) (Refuses a))
  pub range : (a : Asked) (from to : ℕ) (s : RdsState) → Exclude (WithRoom (IsRun a from to s) (RefusesRun a from to s))
  pub push : (rules : RdsRules) (gaps : List RdsGap) (s : RdsStream) (bytes : List ℕ)
      → Exclude (WithRoom (IsFollowed rules gaps s × (place_after s bytes ≤ 2 ^ 36)) (RefusesPush rules gaps s bytes))
  pub push_soft : (rules : RdsRules) (gaps : List RdsGap) (margin : ℕ) (s : RdsSoft) (bytes : List ℕ)
      → Exclude (WithRoom (IsPushed rules gaps margin s bytes) (RefusesSoft rules gaps margin s bytes))
  pub finish : (rules : RdsRules) (gaps : List RdsGap) (s : RdsStream)
      → Exclude (WithRoom (IsFollowed rules gaps s) (RefusesFollowed rules gaps s))
  pub finish_with : (rules : RdsRules) (gaps : List RdsGap) (s : RdsStream) (bytes : List ℕ) (bits : ℕ)
      → Exclude (WithRoom (IsFollowed rules gaps s × AreLast s bytes bits) (RefusesEnd rules gaps s bytes bits))
  pub correct : (w offset limit : ℕ) → Exclude (RefusesCorrection w offset limit)
  pub name : (number : ℕ) (room : List ℕ) → Exclude (RefusesName number room)
