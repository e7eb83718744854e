-- Recordings of a few groups, with their results by the definitions: theorems that the checker computes.
pub mod Words
pub mod Reports
pub mod DamagedBlocks
pub mod SentGroups
pub mod LongerRecordings
pub mod Runs
pub mod States
pub mod SoundRange
