-- Texts, refusals, jobs and command lines, with their values by the definitions: theorems that the checker
-- computes.
pub mod Words
pub mod WellFormed
pub mod Rows
pub mod HexText
pub mod GroupLines
pub mod GapTexts
pub mod Recordings
pub mod SettingsRefused
pub mod Refused
pub mod Texts
pub mod Outside
pub mod CommandLines
pub mod JobsAskedFor
pub mod SentListings
