pub mod Counts
pub mod Writing
