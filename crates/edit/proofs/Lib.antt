pub mod Outcome
pub mod EditSamples
pub mod EditedEntries
pub mod ValidEdit
