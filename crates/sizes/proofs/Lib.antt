pub mod Least
pub mod Lengths
pub mod Most
