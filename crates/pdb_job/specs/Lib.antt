pub mod Structure
pub mod Counted
pub mod Parts
