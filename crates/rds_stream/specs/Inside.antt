-- Definitions that the bodies of this crate cite, and no contract of a public function.
pub mod Gaps
pub mod Lanes
pub mod ValidPlaces
pub mod Sections
