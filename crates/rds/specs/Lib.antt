pub mod CommandLine
pub mod Ended
pub mod Fresh
pub mod Messages
pub mod Session
