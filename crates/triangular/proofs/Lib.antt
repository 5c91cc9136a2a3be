pub mod Work
pub mod Room
pub mod Outcome
pub mod Samples
pub mod UnderMatching
pub mod Valid
