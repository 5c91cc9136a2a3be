pub mod Walk
pub mod Cut
pub mod Reverse
pub mod Props
pub mod Parts
pub mod Form
