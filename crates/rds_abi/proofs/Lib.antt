mod Shared
pub mod Streams
pub mod GapLists
pub mod PartRuns
pub mod NearStreams
pub mod Fitting
pub mod Exclusion
pub mod SoftSymbols
pub mod SoftItems
pub mod SoftStreams
pub mod SoftPush
