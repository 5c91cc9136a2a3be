pub mod Elements
pub mod Turns
pub mod Stores
