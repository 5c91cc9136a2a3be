pub mod Limits
pub mod Buffers
pub mod Matrix
pub mod Refusals
pub mod Parts
pub mod Columns
pub mod Table
