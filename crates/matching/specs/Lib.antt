pub mod Matching
pub mod MatchingSamples
pub mod Search
pub mod Outcome
pub mod Parts
pub mod Work
