pub mod Theorems
pub mod Assembly
