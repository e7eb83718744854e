pub mod Flips
pub mod Symbols
pub mod Again
