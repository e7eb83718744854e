pub mod Moving
pub mod StreamDecoder
pub mod Gaps
pub mod Places
pub mod Room
pub mod Keeping
pub mod Next
pub mod Listing
