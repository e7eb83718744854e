mod Names
pub mod Steps
pub mod Parts
mod Promises
mod PartsFrom
