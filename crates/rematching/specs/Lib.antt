pub mod Checks
pub mod Rematching
