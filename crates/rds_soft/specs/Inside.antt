-- Definitions that the bodies of this crate cite, and no contract of a public function.
pub mod Lightest
pub mod Rows
pub mod Packed
pub mod Streams
pub mod Lists
pub mod Totals
