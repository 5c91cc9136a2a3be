pub mod Before
pub mod Earlier
pub mod Replacements
pub mod Mismatches
pub mod Scans
pub mod Late
pub mod Rematching
pub mod Ends
