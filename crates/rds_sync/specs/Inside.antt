-- Definitions that the bodies of this crate cite, and no contract of a public function.
pub mod Counts
pub mod Locks
pub mod Outcomes
pub mod Searches
pub mod Spans
pub mod WholeGroups
