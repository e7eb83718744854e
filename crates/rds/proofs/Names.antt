-- The names that proofs share: of std, of the crates below, and of the definitions.
pub use Rattle.std.proofs.Common.{Bool, Err, IfErr, IsErrOf, List, None, Ok, OnOk, Option, Result, Some, [], ap, arith, false, inl, inr, length, refl, subst, sym, true, ℕ, ◌*◌, ◌++◌, ◌+◌, ◌<◌, ◌↔◌, ◌∙◌, ◌≡◌, ◌≢◌, ◌≤◌, ◌⊎◌}
pub use Rattle.rds_sync.specs.Rules.{RuleNumbers}
pub use Rattle.rds_tool.specs.{Ends.given_by, Ends.has_ended, Ends.is_flushed, Ends.read_failures, Ends.taken_by, Ends.write_failures, InputOf.InputOf}
pub use Rattle.rds_code.specs.declared.error.RdsError.{RdsError}
pub use Rattle.rds.specs.Session.{HasFollowed, IsDone, IsFollowed, RefusesRules, RefusesTerms, RefusesWorkers, stream_of}
