pub mod Outcome
pub mod EditSamples
