mod Names
pub mod Outcomes
pub mod CommandLines
pub mod Wholes
pub mod SentAndHeard
