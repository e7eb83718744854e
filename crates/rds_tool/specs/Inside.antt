-- Specs that only the bodies of this crate cite, and no contract of a public function.
pub mod Counters
pub mod Digits
pub mod GroupLines
pub mod HeldSymbols
pub mod HexText
pub mod OnePass
pub mod RowWriter
pub mod Rows
pub mod Streams
pub mod Texts
pub mod Commands
