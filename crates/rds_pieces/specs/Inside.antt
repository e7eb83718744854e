-- Specs that only the bodies of this crate cite, and no contract of a public function.
pub mod Beside
pub mod MarkInside
pub mod RunInside
pub mod RunLaws
