pub mod Names
pub mod Sessions
