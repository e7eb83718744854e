-- Settings at the ends of their ranges and past them, and which of two that are out of range is refused.
use Rattle.std.specs.Prelude.{◌≡◌, ◌∷◌, ℕ, [], Err, List, Ok, map, refl, true, false}
use Rattle.rds_sync.specs.declared.loss.Loss.TheVariants.{Run, Share}
use Rattle.rds_tool.specs.{Cuts.are_inner, Cuts.places_at, Plans.plan_of, declared.job.Cuts.TheVariants.Even, declared.job.Settings.Settings, Examples.Words.settings_of, Examples.Words.share_settings}
use Rattle.rds_code.specs.declared.error.RdsError.{RdsError, TheVariants.BadCutting, TheVariants.BurstRange, TheVariants.CrewRange, TheVariants.LossRange, TheVariants.ReachRange, TheVariants.ShareRange}

pub taken : map plan_of (settings_of 0 1 1 1 1 ∷ settings_of 5 8 64 256 4294967295 ∷ share_settings 2 64 64 4 ∷ [])
    ≡ Ok (record { rules = record { burst = 0; reach = 1; loss = Run 1 }; workers = 1; cuts = Even 1 })
    ∷ Ok (record { rules = record { burst = 5; reach = 8; loss = Run 64 }; workers = 256; cuts = Even 4294967295 })
    ∷ Ok (record { rules = record { burst = 2; reach = 3; loss = Share 64 64 }; workers = 4; cuts = Even 16 }) ∷ []
taken = refl

-- each of these settings is refused so
abbrev pub AreRefused : List (Settings × RdsError) → Type 0
AreRefused rows = map (λ row. plan_of row.0) rows ≡ map (λ row. Err row.1) rows

-- past only one end
pub past_an_end : AreRefused (
    (settings_of 6 3 10 4 16, BurstRange)
    ∷ (settings_of 2 0 10 4 16, ReachRange)
    ∷ (settings_of 2 9 10 4 16, ReachRange)
    ∷ (settings_of 2 3 0 4 16, LossRange)
    ∷ (settings_of 2 3 65 4 16, LossRange)
    ∷ (share_settings 2 0 4 4, ShareRange)
    ∷ (share_settings 2 5 4 4, ShareRange)
    ∷ (share_settings 2 1 65 4, ShareRange)
    ∷ (settings_of 2 3 10 0 16, CrewRange)
    ∷ (settings_of 2 3 10 257 16, CrewRange)
    ∷ (settings_of 2 3 10 4 0, BadCutting)
    ∷ []
    )
past_an_end = refl

-- the first in this order is refused, whatever follows: burst, reach, loss or share, workers
pub in_order : AreRefused (
    (settings_of 6 0 0 0 0, BurstRange)
    ∷ (settings_of 2 0 0 0 0, ReachRange)
    ∷ (settings_of 2 3 0 0 0, LossRange)
    ∷ (settings_of 2 3 10 0 0, CrewRange)
    ∷ (share_settings 6 0 4 4, BurstRange)
    ∷ (share_settings 2 0 4 0, ShareRange)
    ∷ []
    )
in_order = refl

-- cuts inside a recording: they rise, above 0 and below its length; no bits have no cuts
pub cuts : map (λ (row : ℕ × List ℕ). are_inner row.0 row.1)
    ((208, 1 ∷ 104 ∷ 207 ∷ []) ∷ (208, []) ∷ (0, []) ∷ (208, 0 ∷ []) ∷ (208, 208 ∷ []) ∷ (208, 5 ∷ 5 ∷ []) ∷ (208, 6 ∷ 5 ∷ [])
    ∷ (208, 5 ∷ 209 ∷ []) ∷ (0, 1 ∷ []) ∷ [])
    ≡ true ∷ true ∷ true ∷ false ∷ false ∷ false ∷ false ∷ false ∷ false ∷ []
cuts = refl

pub places : map (λ (row : ℕ × List ℕ). places_at row.0 row.1) ((208, 104 ∷ []) ∷ (0, []) ∷ []) ≡ (0 ∷ 104 ∷ 208 ∷ []) ∷ (0 ∷ []) ∷ []
places = refl
