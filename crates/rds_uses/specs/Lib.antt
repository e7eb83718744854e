pub mod Jobs
pub mod Received
